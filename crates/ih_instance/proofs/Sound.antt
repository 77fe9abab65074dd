-- What is read is within the limits.
use Rattle.std.proofs.Common.{◌≡◌, ℕ, zero, suc, ◌+◌, ◌<◌, ◌≤◌, List, [], ◌∷◌, ◌++◌, length, get_or, take, map, refl, ap, sym, ◌∙◌, arith, Bool, true, false, length-append, length-take-le, subst}
use Rattle.std.specs.Prelude.{◌≢◌, Option, Some, None, Ok, Err, not, is_some, nat_le, if◌then◌else◌, option_and_then, option_map, All, AllPairs}
use Rattle.std.specs.Bool.{Decides}
use Rattle.std.specs.Str.{bytes_eq}
use Rattle.std.proofs.lemmas.Bool.{leb-true, and_parts}
use Rattle.std.proofs.lemmas.List.Elements.{All-push}
use Rattle.std.proofs.lemmas.List.Quantifiers.{all_pairs_push}
use Rattle.std.proofs.lemmas.Slice.Eq.{bytes_eq-Decides}
use Rattle.serde_json.specs.Data.{Data}
use Rattle.serde_json.specs.Find.{get, as_number, as_u64, as_str}
use Rattle.ih_tables.specs.declared.refusals.Place.{Place}
use Rattle.ih_tables.specs.declared.refusals.Key.{Key}
use Rattle.ih_tables.specs.declared.refusals.Fault.{Fault}
use Rattle.ih_tables.specs.declared.refusals.Fault.TheVariants.{Kind, Missing, Range, Length, Duplicate, Unknown}
use Rattle.ih_tables.specs.Lookups.{number_in}
use Rattle.ih_tables.specs.Places.{key_name, at_key, at_item}
use Rattle.ih_tables.specs.Valid.{Between, IsName, IsVector, IsListed}
use Rattle.ih_tables.proofs.IndexLemmas.{number_in-below}
use Rattle.ih_format.specs.Checks.{Checked, Check, ◌>>=◌, or_else, where_so, between, number, text, list, list_of, first_items, vector, new_name, reference, under, each, each_after, named}
use Rattle.ih_instance.specs.Instance.{Numbers}

abbrev pub ok_of : {A : Type 0} → A → Checked A
ok_of x = Ok x

pub ok_is : {A : Type 0} (x y : A) → ok_of x ≡ ok_of y → x ≡ y
ok_is x y h = cc

pub bind_ok : {A B : Type 0} (r : Checked A) (f : A → Checked B) (y : B) → (r >>= f) ≡ Ok y → (x : A) × (r ≡ Ok x) × (f x ≡ Ok y)
bind_ok (Ok x) f y h = (x, refl, h)
bind_ok (Err e) f y h = absurd (let no : Err e ≡ Ok y = h in cc)

-- the same, where what was read is a variable in what follows: a long chain stays small
pub bind_with : {A B C : Type 0} (r : Checked A) (f : A → Checked B) (y : B) → (r >>= f) ≡ Ok y → ((x : A) → r ≡ Ok x → f x ≡ Ok y → C) → C
bind_with (Ok x) f y h go = go x refl h
bind_with (Err e) f y h go = absurd (let no : Err e ≡ Ok y = h in cc)

-- a test that let x pass
pub where_so_ok : {A : Type 0} (b : Bool) (fault : Fault) (p : Place) (x y : A) → where_so b fault p x ≡ Ok y → (b ≡ true) × (x ≡ y)
where_so_ok true fault p x y h = (refl, cc)
where_so_ok false fault p x y h = absurd (let no : Err (record { fault = fault; at = p }) ≡ Ok y = h in cc)

pub or_else_ok : {A : Type 0} (fault : Fault) (p : Place) (o : Option A) (x : A) → or_else fault p o ≡ Ok x → o ≡ Some x
or_else_ok fault p None x h = absurd (let no : Err (record { fault = fault; at = p }) ≡ Ok x = h in cc)
or_else_ok fault p (Some y) x h = ap Some (ok_is y x h)

pub between_sound : (low high n : ℕ) → between low high n ≡ true → Between low high n
between_sound low high n h =
    let both = and_parts (nat_le low n) (nat_le n high) h in
    record { least = leb-true low n both.0; most = leb-true n high both.1 }

pub number_sound : (low high : ℕ) (p : Place) (d : Data) (n : ℕ) → number low high p d ≡ Ok n → Between low high n
number_sound low high p d n h =
    let a = bind_ok (or_else Kind p (option_and_then as_u64 (as_number d))) _ n h in
    let t = where_so_ok (between low high a.0) Range p a.0 n a.2 in
    subst (Between low high) t.1 (between_sound low high a.0 t.0)

pub text_sound : (p : Place) (d : Data) (s : List ℕ) → text p d ≡ Ok s → IsName s
text_sound p d s h =
    let a = bind_ok (or_else Kind p (as_str d)) _ s h in
    let t = where_so_ok (between 1 100 (length a.0)) Range p a.0 s a.2 in
    subst IsName t.1 (between_sound 1 100 (length a.0) t.0)

free : (o : Option ℕ) → not (is_some o) ≡ true → o ≡ None
free None h = refl
free (Some n) h = absurd (let no : false ≡ true = h in cc)

pub new_name_sound : (f : Numbers) (p : Place) (d : Data) (s : List ℕ) → new_name f p d ≡ Ok s → IsName s × (f s ≡ None)
new_name_sound f p d s h =
    let a = bind_ok (text p d) _ s h in
    let t = where_so_ok (not (is_some (f a.0))) Duplicate p a.0 s a.2 in
    (subst IsName t.1 (text_sound p d a.0 a.1), subst (λ x. f x ≡ None) t.1 (free (f a.0) t.0))

pub reference_sound : (names : List (List ℕ)) (p : Place) (d : Data) (n : ℕ) → reference (number_in names) p d ≡ Ok n → n < length names
reference_sound names p d n h =
    let a = bind_ok (text p d) _ n h in
    number_in-below names a.0 n (or_else_ok Unknown p (number_in names a.0) n a.2)

-- what a key's value is read as
pub key_ok : {A : Type 0} (p : Place) (d : Data) (k : Key) (check : Check A) (x : A) → under p d k check ≡ Ok x → (v : Data) × (check (at_key k p) v ≡ Ok x)
key_ok p d k check x h =
    let a = bind_ok (or_else Missing (at_key k p) (get (key_name k) d)) _ x h in
    (a.0, a.2)

-- ---- lists

pub list_of_sound : (low high : ℕ) (p : Place) (d : Data) (ds : List Data) → list_of low high p d ≡ Ok ds → Between low high (length ds)
list_of_sound low high p d ds h =
    let a = bind_ok (list p d) _ ds h in
    let t = where_so_ok (between low high (length a.0)) Length p a.0 ds a.2 in
    subst (λ (xs : List Data). Between low high (length xs)) t.1 (between_sound low high (length a.0) t.0)

-- what each item keeps holds of all of them
pub keeps : {A : Type 0} (I : List A → Type 0) (check : List A → Check A) (p : Place)
    → ((done : List A) (q : Place) (d : Data) (x : A) → I done → check done q d ≡ Ok x → I (done ++ x ∷ [])) → (ds : List Data) (done xs : List A) → I done
    → each_after done check p ds ≡ Ok xs → I xs × (length xs ≡ length done + length ds)
unfolding each_after
keeps I check p step [] done xs i h =
    let e = ok_is done xs h in
    (subst I e i, rw (← e) (omega arith))
keeps {A} I check p step (d ∷ ds) done xs i h =
    let a = bind_ok (check done (at_item (length done) p) d) _ xs h in
    let rest = keeps I check p step ds (done ++ a.0 ∷ []) xs (step done (at_item (length done) p) d a.0 i a.1) a.2 in
    (rest.0, omega (arith, rest.1, length-append done (a.0 ∷ [])))

pub each_sound : {A : Type 0} (P : A → Type 0) (check : List A → Check A) (p : Place) (ds : List Data) (xs : List A)
    → ((done : List A) (q : Place) (d : Data) (x : A) → check done q d ≡ Ok x → P x) → each check p ds ≡ Ok xs → All P xs × (length xs ≡ length ds)
each_sound {A} P check p ds xs row h =
    let k = keeps (λ (ys : List A). All P ys) check p (λ done q d x i e. All-push P done x i (row done q d x e)) ds [] xs (λ k d l. absurd (omega arith)) h in
    (k.0, omega (arith, k.1))

pub vector_sound : (n high : ℕ) (p : Place) (d : Data) (xs : List ℕ) → vector n high p d ≡ Ok xs → IsVector n high xs
vector_sound n high p d xs h =
    let a = bind_ok (first_items n p d) _ xs h in
    let b = bind_ok (list p d) _ a.0 a.1 in
    let t = where_so_ok (nat_le n (length b.0)) Length p (take n b.0) a.0 b.2 in
    let e = each_sound (λ x. x ≤ high) (λ _. number 0 high) p a.0 xs (λ done q v x r. (number_sound 0 high q v x r).most) a.2 in
    let long : n ≤ length b.0 = leb-true n (length b.0) t.0 in
    let len : length (take n b.0) ≡ n = length-take-le n b.0 long in
    record { len = e.1 ∙ (ap length (sym t.1) ∙ len); small = e.0 }

-- a name that is new differs from each earlier one
differs : {A : Type 0} (name : A → List ℕ) (done : List A) (s : List ℕ) → number_in (map name done) s ≡ None → (k : ℕ) (d : A) → k < length done → name (get_or done k d) ≢ s
unfolding number_in
differs name [] s h k d l = absurd (omega arith)
differs {A} name (x ∷ xs) s h k d l = here (bytes_eq (name x) s) (bytes_eq-Decides (name x) s) (number_in (map name xs) s) h (λ e. differs name xs s e) k l
  where
    here : (b : Bool) → Decides b (name x ≡ s) → (o : Option ℕ) → (if b then Some 0 else option_map suc o) ≡ None
        → (o ≡ None → (k : ℕ) (d : A) → k < length xs → name (get_or xs k d) ≢ s) → (k : ℕ) → k < suc (length xs) → name (get_or (x ∷ xs) k d) ≢ s
    here true t o h f k l = absurd (let no : Some 0 ≡ None = h in cc)
    here false t (Some n) h f k l = absurd (let no : Some (suc n) ≡ None = h in cc)
    here false t None h f zero l = λ e. absurd (let no : false ≡ true = t.1 e in cc)
    here false t None h f (suc j) l = f refl j d (omega arith)

pub record IsRead {A : Type 0} (name : A → List ℕ) (P : A → Type 0) (xs : List A) : Type 0 where
  pub each : All P xs
  pub named : All (λ x. IsName (name x)) xs
  pub distinct : AllPairs (λ x y. name x ≢ name y) xs

-- a row gives a new name, and P
abbrev pub Rows : {A : Type 0} → (A → List ℕ) → (A → Type 0) → (Numbers → Check A) → Type 0
Rows {A} name P row = (names : List (List ℕ)) (q : Place) (d : Data) (x : A) → row (number_in names) q d ≡ Ok x → (IsName (name x) × (number_in names (name x) ≡ None)) × P x

pub named_sound : {A : Type 0} (low high : ℕ) (name : A → List ℕ) (P : A → Type 0) (row : Numbers → Check A) (p : Place) (d : Data) (xs : List A)
    → Rows name P row → named low high name row p d ≡ Ok xs → IsListed low high name xs × All P xs
named_sound {A} low high name P row p d xs rows h =
    let a = bind_ok (list_of low high p d) _ xs h in
    let k = keeps (IsRead name P) (λ done. row (number_in (map name done))) p (λ done q v x i e.
    let r = rows (map name done) q v x e in
    record {
      each = All-push P done x i.each r.1;
      named = All-push (λ y. IsName (name y)) done x i.named r.0.0;
      distinct = all_pairs_push (λ y z. name y ≢ name z) done x i.distinct (differs name done (name x) r.0.1);
    }) a.0 [] xs (record { each = λ k d l. absurd (omega arith); named = λ k d l. absurd (omega arith); distinct = λ i j d l m. absurd (omega arith) }) a.2 in
    let len = list_of_sound low high p d a.0 a.1 in
    (record { len = record { least = omega (arith, k.1, len.least); most = omega (arith, k.1, len.most) }; named = k.0.named; distinct = k.0.distinct }, k.0.each)
