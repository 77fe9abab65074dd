-- Lists of what each element of a list stands for.
use Rattle.std.proofs.Common.{◌≡◌, ℕ, zero, suc, ◌*◌, refl, ap, arith, List, [], ◌∷◌, ◌++◌, take, drop, map, Some, None}
use Rattle.std.specs.Prelude.{slice_get, All}
use Rattle.std.proofs.lemmas.List.Elements.{All-head, All-tail}
use Rattle.ih_plan.specs.Draws.{move_of}
use Rattle.ih_plan.specs.declared.moves.Move.{Move}
use Rattle.ih_tables.specs.declared.bills.Bill.{Bill}
use Rattle.ih_journal.specs.declared.entries.Entry.{Entry}
use Rattle.ih_journal.specs.declared.entries.Verdict.{Verdict}
use Rattle.ih_journal.specs.Base.{Base}
use Rattle.ih_journal.specs.Legal.{attempt_of}
use Rattle.ih_journal.specs.Tried.{Tried, tried, tries}

pub map-more : {X Y : Type 0} (f : X → Y) (xs : List X) (x : X) → map f (xs ++ x ∷ []) ≡ map f xs ++ f x ∷ []
map-more f [] x = refl
map-more f (y ∷ ys) x = ap (λ zs. f y ∷ zs) (map-more f ys x)

pub map-take : {X Y : Type 0} (f : X → Y) (n : ℕ) (xs : List X) → map f (take n xs) ≡ take n (map f xs)
map-take f zero xs = refl
map-take f (suc n) [] = refl
map-take f (suc n) (x ∷ xs) = ap (λ ys. f x ∷ ys) (map-take f n xs)

pub map-drop : {X Y : Type 0} (f : X → Y) (n : ℕ) (xs : List X) → map f (drop n xs) ≡ drop n (map f xs)
map-drop f zero xs = refl
map-drop f (suc n) [] = refl
map-drop f (suc n) (x ∷ xs) = map-drop f n xs

pub get-mapped : {X Y : Type 0} (f : X → Y) (xs : List X) (n : ℕ) (x : X) → slice_get xs n ≡ Some x → slice_get (map f xs) n ≡ Some (f x)
get-mapped f [] n x h = absurd (let no : None ≡ Some x = h in cc)
get-mapped f (y ∷ ys) zero x h = let same : Some y ≡ Some x = h in cc
get-mapped f (y ∷ ys) (suc n) x h = get-mapped f ys n x h

-- what each element of a list is mapped to tells the list, where it tells the element
pub map-injective : {A B : Type 0} (f : A → B) (P : A → Type 0) (xs ys : List A) → ((x y : A) → P x → P y → f x ≡ f y → x ≡ y)
    → All P xs → All P ys → map f xs ≡ map f ys → xs ≡ ys
map-injective f P [] [] one all others h = refl
map-injective f P [] (y ∷ ys) one all others h = absurd (let no : [] ≡ f y ∷ map f ys = h in cc)
map-injective f P (x ∷ xs) [] one all others h = absurd (let no : f x ∷ map f xs ≡ [] = h in cc)
map-injective f P (x ∷ xs) (y ∷ ys) one all others h =
    let same : f x ∷ map f xs ≡ f y ∷ map f ys = h in
    let first : x ≡ y = one x y (All-head P x xs all) (All-head P y ys others) cc in
    let rest : xs ≡ ys = map-injective f P xs ys one (All-tail P x xs all) (All-tail P y ys others) cc in
    cc

-- an attempt of one move is a draw
pub attempt-one : (b : Base) (w i : ℕ) → attempt_of b 1 w i ≡ move_of b.instance b.options.seed w i ∷ []
attempt-one b w i = let same : i * 1 ≡ i = omega arith in ap (λ k. move_of b.instance b.options.seed w k ∷ []) same

-- ---- what entries of one move stand for tells the entries

same-entry : (e f : Entry) → e.worker ≡ f.worker → e.number ≡ f.number → e.again ≡ f.again → e.seen ≡ f.seen → e.mv ≡ f.mv → e.price ≡ f.price
    → e.verdict ≡ f.verdict → e ≡ f
same-entry e f worker number again seen mv price verdict =
    ap (λ (t : ℕ × ℕ × ℕ × ℕ × Move × Bill × Verdict).
    let x : Entry = record { worker = t.0; number = t.1; again = t.2; seen = t.3; mv = t.4; price = t.5; verdict = t.6 } in x)
    (let all : (e.worker, e.number, e.again, e.seen, e.mv, e.price, e.verdict) ≡ (f.worker, f.number, f.again, f.seen, f.mv, f.price, f.verdict) =
    rw (worker, number, again, seen, mv, price, verdict) refl in all)

tried-one : (e f : Entry) → tried e ≡ tried f → e ≡ f
tried-one e f h =
    let moves : e.mv ∷ [] ≡ f.mv ∷ [] = ap (λ (t : Tried). t.moves) h in
    let mv : e.mv ≡ f.mv = cc in
    same-entry e f (ap (λ (t : Tried). t.worker) h) (ap (λ (t : Tried). t.number) h) (ap (λ (t : Tried). t.again) h)
    (ap (λ (t : Tried). t.seen) h) mv (ap (λ (t : Tried). t.price) h) (ap (λ (t : Tried). t.verdict) h)

pub tries-one : (H G : List Entry) → tries H ≡ tries G → H ≡ G
tries-one H G h = map-injective tried (λ _. Unit {0}) H G (λ e f _ _. tried-one e f) (λ k d lt. tt) (λ k d lt. tt) h
