-- What `clap`'s own lemmas ask of an argument, by the argument's rule and its place.
use Rattle.std.proofs.Common.{zero, suc, ◌≡◌, ◌∙◌, ◌<◌, ◌≤◌, ap, sym, ℕ, true, false, not, List, [], ◌∷◌, length, map, is_some, Option, Some, None, refl, inl, inr, arith, codes}
use Rattle.std.specs.Prelude.{slice_get, unwrap_or}
use Rattle.std.specs.List.{list_all, slice_index_or}
use Rattle.std.specs.Str.{bytes_eq}
use Rattle.std.proofs.lemmas.Bool.{and_parts, ne_eqb, not-true}
use Rattle.std.proofs.lemmas.List.{length-map}
use Rattle.std.proofs.lemmas.Slice.Eq.{bytes_eq-Decides}
use Rattle.clap.specs.Built.{IsAuto, IsPlain, IsPlainArg}
use Rattle.clap.specs.Facts.{args_of, groups_of, least_values, unwrap_or_range}
use Rattle.clap.specs.Walk.{Rule, Text, is_empty, is_free_arg, is_simple_arg, rule_of}
use Rattle.clap.specs.Simple.{app_of, has_simple_rules}
use Rattle.clap.specs.declared.builder.arg.Arg.{Arg}
use Rattle.clap.specs.declared.builder.command.Command.{Command}
use Rattle.clap.specs.declared.builder.command.Command.TheViews.{out-Command}
use Rattle.ih_arguments.specs.Distinct.{all_differ}
use Rattle.ih_arguments.specs.Rules.{has_independent_rules, is_unreserved}
use Rattle.ih_arguments.proofs.Distinct.{distinct}

-- ---- tests

nil : {X : Type 0} (xs : List X) → is_empty xs ≡ true → xs ≡ []
nil [] h = refl
nil (x ∷ xs) h = let no : is_empty (x ∷ xs) ≡ false = ne_eqb _ _ (λ e. omega arith) in let bad : true ≡ false = sym h ∙ no in cc

none : {X : Type 0} (o : Option X) → not (is_some o) ≡ true → o ≡ None
none None h = refl
none (Some x) h = let bad : false ≡ true = h in cc

-- ---- lists

map_at : {X Y : Type 0} (f : X → Y) (xs : List X) (k : ℕ) (d : X) → slice_index_or (map f xs) k (f d) ≡ f (slice_index_or xs k d)
map_at f [] k d = refl
map_at f (x ∷ xs) zero d = refl
map_at f (x ∷ xs) (suc k) d = map_at f xs k d

-- an argument of a list, by its rule
at_place : (xs : List Arg) (k : ℕ) (r : Rule) → slice_get (map rule_of xs) k ≡ Some r
    → (d : Arg) × (k < length xs) × (rule_of (slice_index_or xs k d) ≡ r)
at_place [] k r is = absurd (let no-way : None ≡ Some r = is in cc)
at_place (x ∷ xs) zero r is = (x, omega arith, ap (λ o. unwrap_or o r) is)
at_place (x ∷ xs) (suc k) r is =
    let more = at_place xs k r is in
    (more.0, omega (arith, more.1), more.2)

-- ---- arguments

abbrev Fits : Arg → Type 0
Fits a = IsPlainArg a × (a.val_delim ≡ None)

fits : (a : Arg) → is_simple_arg a ≡ true → is_free_arg a ≡ true → Fits a
fits a simple free =
    let s0 = and_parts (is_empty a.overrides.items) _ simple in
    let s1 = and_parts (is_empty a.default_vals_ifs.items) _ s0.1 in
    let s2 = and_parts (is_empty a.groups.items) _ s1.1 in
    let s3 = and_parts (not (is_some a.val_delim)) _ s2.1 in
    let f0 = and_parts (not a.exclusive) _ free in
    let f1 = and_parts (is_empty a.conflicts.items) _ f0.1 in
    ((not-true _ f0.0, nil _ f1.0, nil _ s0.0, nil _ s2.0), none _ s3.0)

all_fit : (xs : List Arg) → list_all (λ r. r.is_simple) (map rule_of xs) ≡ true → list_all (λ r. r.is_free) (map rule_of xs) ≡ true
    → (k : ℕ) (d : Arg) → k < length xs → Fits (slice_index_or xs k d)
all_fit [] simple free k d lt = absurd (omega arith)
all_fit (x ∷ xs) simple free zero d lt =
    fits x (and_parts (is_simple_arg x) _ simple).0 (and_parts (is_free_arg x) _ free).0
all_fit (x ∷ xs) simple free (suc k) d lt =
    all_fit xs (and_parts (is_simple_arg x) _ simple).1 (and_parts (is_free_arg x) _ free).1 k d (omega arith)

unreserved_at : (xs : List Arg) → list_all (λ r. is_unreserved r.id) (map rule_of xs) ≡ true → (k : ℕ) (d : Arg) → k < length xs
    → is_unreserved (slice_index_or xs k d).id.now ≡ true
unreserved_at [] h k d lt = absurd (omega arith)
unreserved_at (x ∷ xs) h zero d lt = (and_parts (is_unreserved x.id.now) _ h).0
unreserved_at (x ∷ xs) h (suc k) d lt = unreserved_at xs (and_parts (is_unreserved x.id.now) _ h).1 k d (omega arith)

pub not_nil : (id : Text) → is_unreserved id ≡ true → id ≡ [] → ⊥
not_nil id h is =
    let no : bytes_eq id [] ≡ false = not-true _ (and_parts (not (bytes_eq id [])) _ h).0 in
    let yes : bytes_eq id [] ≡ true = (bytes_eq-Decides id []).1 is in
    let bad : true ≡ false = sym yes ∙ no in cc

pub not_auto : (a : Arg) → is_unreserved a.id.now ≡ true → IsAuto a → ⊥
not_auto a h (inl is) =
    let rest = (and_parts (not (bytes_eq a.id.now [])) _ h).1 in
    let no : bytes_eq a.id.now (codes "help") ≡ false = not-true _ (and_parts (not (bytes_eq a.id.now (codes "help"))) _ rest).0 in
    let yes : bytes_eq a.id.now (codes "help") ≡ true = (bytes_eq-Decides _ _).1 is in
    let bad : true ≡ false = sym yes ∙ no in cc
not_auto a h (inr is) =
    let rest = (and_parts (not (bytes_eq a.id.now [])) _ h).1 in
    let no : bytes_eq a.id.now (codes "version") ≡ false = not-true _ (and_parts (not (bytes_eq a.id.now (codes "help"))) _ rest).1 in
    let yes : bytes_eq a.id.now (codes "version") ≡ true = (bytes_eq-Decides _ _).1 is in
    let bad : true ≡ false = sym yes ∙ no in cc

id_at : (xs : List Arg) (k : ℕ) (d : Arg) → slice_index_or (map (λ (r : Rule). r.id) (map rule_of xs)) k d.id.now ≡ (slice_index_or xs k d).id.now
id_at xs k d = map_at (λ (r : Rule). r.id) (map rule_of xs) k (rule_of d) ∙ ap (λ (r : Rule). r.id) (map_at rule_of xs k d)

ids_length : (xs : List Arg) → length (map (λ (r : Rule). r.id) (map rule_of xs)) ≡ length xs
ids_length xs = length-map (map rule_of xs) (λ (r : Rule). r.id) ∙ length-map xs rule_of

-- two places with equal ids are one place
within : (xs : List Arg) (k : ℕ) → k < length xs → k < length (map (λ (r : Rule). r.id) (map rule_of xs))
within xs k lt = omega (arith, ids_length xs)

unique_at : (xs : List Arg) → all_differ (map (λ (r : Rule). r.id) (map rule_of xs)) ≡ true → (k : ℕ) (d : Arg) → k < length xs
    → (j : ℕ) (e : Arg) → j < length xs → bytes_eq (slice_index_or xs j e).id.now (slice_index_or xs k d).id.now ≡ true → j ≡ k
unique_at xs differ k d kl j e jl same = distinct (map (λ (r : Rule). r.id) (map rule_of xs)) differ j k e.id.now d.id.now
    (within xs j jl) (within xs k kl) (rw (id_at xs j e, id_at xs k d) same)

-- an argument with no range of its own has one value or more
one_least : (a : Arg) → a.num_vals ≡ None → 1 ≤ least_values a
one_least a range =
    let one : least_values a ≡ 1 = ap (λ o. (unwrap_or_range o).start_inclusive) range in
    omega (arith, one)

-- ---- the argument

-- what clap's own lemmas ask of the argument at place k
pub record Ready (old : Command) (k : ℕ) (rule : Rule) : Type 0 where
  pub d : Arg
  pub within : k < length (args_of old)
  pub rule_is : rule_of (slice_index_or (args_of old) k d) ≡ rule
  pub id_is : (slice_index_or (args_of old) k d).id.now ≡ rule.id
  pub plain : IsPlain old
  pub globals : (out-Command old).has_globals ≡ false
  pub negates : (out-Command old).subcommand_negates_reqs ≡ false
  pub delim : (slice_index_or (args_of old) k d).val_delim ≡ None
  pub least : 1 ≤ least_values (slice_index_or (args_of old) k d)
  pub unique : (j : ℕ) (e : Arg) → j < length (args_of old)
      → bytes_eq (slice_index_or (args_of old) j e).id.now (slice_index_or (args_of old) k d).id.now ≡ true → j ≡ k
  pub unreserved : is_unreserved (slice_index_or (args_of old) k d).id.now ≡ true

-- that argument
abbrev pub argument_of : {old : Command} {k : ℕ} {rule : Rule} → Ready old k rule → Arg
argument_of {old} {k} a = slice_index_or (args_of old) k a.d

pub ready : (old : Command) → has_independent_rules (app_of old) ≡ true → (k : ℕ) (rule : Rule)
    → slice_get (app_of old).top.rules k ≡ Some rule → rule.range ≡ None → Ready old k rule
ready old independent k rule at no_range =
    let h0 = and_parts (has_simple_rules (app_of old).top) _ independent in
    let h1 = and_parts (list_all (λ r. r.is_free) (app_of old).top.rules) _ h0.1 in
    let h2 = and_parts (not (app_of old).top.subcommand_negates_reqs) _ h1.1 in
    let h3 = and_parts (list_all (λ r. is_unreserved r.id) (app_of old).top.rules) _ h2.1 in
    let s = and_parts (app_of old).top.is_plain _ h0.0 in
    let g0 = and_parts (is_empty (groups_of old)) _ s.0 in
    let g1 = and_parts (not (out-Command old).allow_external_subcommands) _ g0.1 in
    let g2 = and_parts (not (out-Command old).has_globals) _ g1.1 in
    let xs = args_of old in
    let all = all_fit xs s.1 h1.0 in
    let place = at_place xs k rule at in
    let d = place.0 in
    let range : (slice_index_or xs k d).num_vals ≡ None = ap (λ (r : Rule). r.range) place.2 ∙ no_range in
    record {
      d = d;
      within = place.1;
      rule_is = place.2;
      id_is = ap (λ (r : Rule). r.id) place.2;
      plain = ((λ j e lt. (all j e lt).0), nil _ g0.0);
      globals = not-true _ g2.0;
      negates = not-true _ h2.0;
      delim = (all k d place.1).1;
      least = one_least (slice_index_or xs k d) range;
      unique = unique_at xs h3.1 k d place.1;
      unreserved = unreserved_at xs h3.0 k d place.1;
    }
