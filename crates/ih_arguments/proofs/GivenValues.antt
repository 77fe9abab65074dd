-- What the rules of a command's arguments say of its matches: a value that was given passed its parser. The lemmas
-- up to `given_text` are much as `clap`'s own of a required value, which `clap` keeps to itself.
use Rattle.std.proofs.Common.{◌≡◌, ◌∙◌, ◌<◌, ap, ℕ, Bool, true, List, [], ◌∷◌, Option, Some, None, refl, sym, subst, inl, inr, arith}
use Rattle.std.specs.List.{All, find}
use Rattle.std.specs.Str.{bytes_eq}
use Rattle.std.specs.Prelude.{option_and_then, option_map, slice_get, unwrap_or}
use Rattle.std.specs.Borrow.{Bor}
use Rattle.std.proofs.lemmas.Slice.Eq.{bytes_eq-Decides}
use Rattle.std.proofs.lemmas.List.Elements.{All-get_or}
use Rattle.clap.specs.Facts.{groups_of, Entry, EntryPasses, ValuesPass, PassesArg, HasReading, parser_of, parser_of_value}
use Rattle.clap.specs.Built.{IsParsedFrom}
use Rattle.clap.specs.Matches.{matched_of, one_text, found_of}
use Rattle.clap.specs.declared.parser.matches.Found.{Found}
use Rattle.clap.specs.Values.{Accepts, read_as, reading_of}
use Rattle.clap.specs.declared.builder.value_parser.Reading.{Reading}
use Rattle.clap.proofs.CallerLemmas.{entry_by_id, same_rules_by_id}
use Rattle.clap.specs.declared.builder.command.Command.{Command}
use Rattle.clap.specs.declared.builder.value_parser.ValueParser.{ValueParser}
use Rattle.clap.specs.declared.parser.matches.ArgMatches.{ArgMatches}
use Rattle.clap.specs.declared.parser.matches.MatchedArg.{MatchedArg}
use Rattle.clap.specs.Walk.{Row, Rule, one_of, row_text, rows_of}
use Rattle.clap.specs.Words.{Text, app_of}
use Rattle.clap.specs.declared.builder.value_parser.ValueParser.TheVariants.{Unsigned}
use Rattle.clap.proofs.WalkLemmas.{one_text-rows}
use Rattle.ih_arguments.specs.Rules.{RequiresNumber, TakesNumber, has_independent_rules}
use Rattle.ih_arguments.specs.Matches.{HasNumber, HasText, IsNumberIfGiven}
use Rattle.ih_arguments.proofs.ArgumentFacts.{Ready, argument_of, not_auto, not_nil, ready}
use Rattle.ih_arguments.proofs.RequiredValues.{required_text}

-- an entry with the argument's id is read as the argument's parser says
only_reading : (old : Command) (m : ArgMatches) (p : IsParsedFrom old m) (k : ℕ) (rule : Rule) (a : Ready old k rule) (q : ValueParser) → rule.parser ≡ Some q
    → (how : Reading) → HasReading p.built (argument_of a).id.now how → how ≡ reading_of q
only_reading old m p k rule a q parser how any =
    let same = same_rules_by_id old m p k a.d a.within a.unique (not_auto (argument_of a) a.unreserved) any.0 any.1 any.2 any.3 any.4.0 in
    let is : parser_of any.1 ≡ q = ap parser_of_value (same.parser q (ap (λ (x : Rule). x.parser) a.rule_is ∙ parser)) in
    sym any.4.1 ∙ ap reading_of is

-- and its values passed that parser
only_passed : (old : Command) (m : ArgMatches) (p : IsParsedFrom old m) (k : ℕ) (rule : Rule) (a : Ready old k rule) (q : ValueParser) → rule.parser ≡ Some q
    → (t : Text) → PassesArg p.built (argument_of a).id.now t → Accepts (argument_of a).ignore_case q t
only_passed old m p k rule a q parser t any =
    let same = same_rules_by_id old m p k a.d a.within a.unique (not_auto (argument_of a) a.unreserved) any.0 any.1 any.2 any.3 any.4.0 in
    let is : parser_of any.1 ≡ q = ap parser_of_value (same.parser q (ap (λ (x : Rule). x.parser) a.rule_is ∙ parser)) in
    subst (λ (b : Bool). Accepts b q t) same.ignore_case (subst (λ (w : ValueParser). Accepts any.1.ignore_case w t) is any.4.1)

-- the first value of an argument's entry passed the argument's parser
first_passes : (c : Command) (id : Text) (Q : Text → Type 0) (how : Reading) (x : MatchedArg) (e : Entry) (t : Text)
    → groups_of c ≡ [] → (id ≡ [] → ⊥) → ((r : Reading) → HasReading c id r → r ≡ how)
    → ((v : Bor Text) → PassesArg c id v.now → Q v.now)
    → e.1 ≡ x → e.0.now ≡ id → EntryPasses c e
    → option_map (λ s. read_as x.reading s.now) (slice_get x.vals.items 0) ≡ Some t
    → (u : Text) × (t ≡ read_as how u) × Q u
first_passes c id Q how x e t no_groups named reads read same_x key_id pass found =
    let no_group : e.1.is_group ≡ true → ⊥ = λ g. elim (pass.3 g) [
      | inl empty ↦ named (sym key_id ∙ empty)
      | inr lots ↦
          let bad : 0 < 0 = rw no_groups at lots in
          absurd (omega arith)
    ] in
    let all : All (λ v. PassesArg c id v.now) x.vals.items = elim pass.0 [
      | inl g ↦ absurd (no_group g)
      | inr vals ↦ subst (λ (w : Text). All (λ v. PassesArg c w v.now) x.vals.items) key_id (rw same_x at vals)
    ] in
    let is : e.1.reading ≡ how = elim pass.4 [
      | inl g ↦ absurd (no_group g)
      | inr h ↦ reads e.1.reading (subst (λ (w : Text). HasReading c w e.1.reading) key_id h)
    ] in
    first x.vals.items all (ap (λ (y : MatchedArg). y.reading) (sym same_x) ∙ is) found
  where
    first : (vs : List (Bor Text)) → All (λ v. PassesArg c id v.now) vs → x.reading ≡ how
        → option_map (λ s. read_as x.reading s.now) (slice_get vs 0) ≡ Some t → (u : Text) × (t ≡ read_as how u) × Q u
    first [] all is found = cc
    first (v ∷ vs) all is found = (
      v.now,
      ap (λ o. unwrap_or o t) (sym found) ∙ ap (λ r. read_as r v.now) is,
      read v (All-get_or (λ v. PassesArg c id v.now) (v ∷ vs) 0 v (omega arith) all),
    )

-- a text that is read is that of a value that passed
given_text : (c : Command) (f : Found) (id : Text) (Q : Text → Type 0) (how : Reading) (t : Text) → ValuesPass c f → groups_of c ≡ []
    → (id ≡ [] → ⊥) → ((r : Reading) → HasReading c id r → r ≡ how) → ((v : Bor Text) → PassesArg c id v.now → Q v.now)
    → one_text f id ≡ Some t → (u : Text) × (t ≡ read_as how u) × Q u
given_text c f id Q how t values no_groups named reads read found = at_entry (matched_of f id) refl found
  where
    at_entry : (o : Option MatchedArg) → matched_of f id ≡ o → one_text f id ≡ Some t → (u : Text) × (t ≡ read_as how u) × Q u
    at_entry None e h =
        let bad : None ≡ Some t = rw e at h in
        cc
    at_entry (Some x) e h =
        let got = entry_by_id (EntryPasses c) f.entries.items id x values e in
        first_passes c id Q how x got.0 t no_groups named reads read got.1 ((bytes_eq-Decides got.0.0.now id).0 got.2) got.3 (rw e at h)

-- a number that was given is in its range
pub given_number : (old : Command) (m : ArgMatches) → IsParsedFrom old m → has_independent_rules (app_of old) ≡ true
    → (k : ℕ) (rule : Rule) (low high : ℕ) → TakesNumber (app_of old) k rule low high
    → IsNumberIfGiven low high rule.id (rows_of (found_of m))
given_number old m p independent k rule low high takes t found =
    let a = ready old independent k rule takes.place takes.range in
    let id = (argument_of a).id.now in
    let ignore_case = (argument_of a).ignore_case in
    let q = Unsigned low high in
    let text : one_text (found_of m) id ≡ Some t = ap (one_text (found_of m)) a.id_is ∙ one_text-rows (found_of m) rule.id ∙ found in
    let passed = given_text p.built (found_of m) id (λ (u : Text). Accepts ignore_case q u) (reading_of q) t
    (p.parsed (p.from.globals ∙ a.globals)).values (p.from.plain a.plain).1 (not_nil id a.unreserved)
    (only_reading old m p k rule a q takes.parser) (λ v any. only_passed old m p k rule a q takes.parser v.now any) text in
    subst (λ (u : Text). Accepts ignore_case q u) (sym passed.1) passed.2

-- where an argument has a text, it has one that is read
read_too : (id : Text) (rows : List Row) → HasText id rows → (t : Text) × (one_of id rows ≡ Some t)
read_too id rows has = at_row (find (λ r. bytes_eq r.id id) rows) has.1
  where
    at_value : (how : Reading) (o : Option Text) → o ≡ Some has.0 → (t : Text) × (option_map (read_as how) o ≡ Some t)
    at_value how None is = cc
    at_value how (Some v) is = (read_as how v, refl)

    at_row : (o : Option Row) → option_and_then (λ r. slice_get r.values 0) o ≡ Some has.0 → (t : Text) × (option_and_then row_text o ≡ Some t)
    at_row None is = cc
    at_row (Some r) is = at_value r.reading (slice_get r.values 0) is

-- a required number is there and in its range
pub required_number : (old : Command) (m : ArgMatches) → IsParsedFrom old m → has_independent_rules (app_of old) ≡ true
    → (k : ℕ) (rule : Rule) (low high : ℕ) → RequiresNumber (app_of old) k rule low high
    → HasNumber low high rule.id (rows_of (found_of m))
required_number old m p independent k rule low high requires =
    let text = read_too rule.id (rows_of (found_of m)) (required_text old m p independent k rule requires.value) in
    let number = given_number old m p independent k rule low high
    (record { place = requires.value.place; range = requires.value.range; parser = requires.parser }) in
    (text.0, text.1, number text.0 text.1)
