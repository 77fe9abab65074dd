-- What holds of each call that words name: its solution goes to another file than its journal, and it is within its
-- limits.
use Rattle.std.proofs.Common.{◌≡◌, ℕ, refl, ap, sym, ◌∙◌, subst, Bool, true, false, List, ◌∷◌, Option, Some, None, leb-true}
use Rattle.std.specs.Prelude.{◌≢◌, ◌&&◌, ◌*◌, nat_le, not, codes, if◌then◌else◌, option_and_then, option_map, slice_get}
use Rattle.std.specs.List.{list_any}
use Rattle.std.specs.Str.{bytes_eq}
use Rattle.std.proofs.lemmas.Slice.Eq.{bytes_eq-Decides}
use Rattle.std.proofs.lemmas.Bool.{and_parts, or_parts, not-true}
use Rattle.clap.specs.Words.{App, Text, matches_of}
use Rattle.ih_journal.specs.Settings.{most_entries}
use Rattle.ih_journal.specs.declared.settings.TheConstants.{MAX_ENTRIES}
use Rattle.ih_words.specs.Advise.{advise_app, lawful_advise}
use Rattle.ih_words.specs.Check.{check_app, lawful_check}
use Rattle.ih_words.specs.Demo.{demo_app, lawful_demo}
use Rattle.ih_arguments.specs.Distinct.{all_differ}
use Rattle.ih_words.specs.Generate.{gen_app, lawful_gen}
use Rattle.ih_arguments.specs.Matches.{call_by, has_no_fault, number_at}
use Rattle.ih_words.specs.Plain.{IsWithin, PlainCall, chain_app, is_lawful_plain, is_number_to, lawful_chain, lawful_plain_to, lawful_rounds, plain_search_in, rounds_app}
use Rattle.ih_words.specs.Replay.{lawful_replay, replay_app}
use Rattle.ih_words.specs.Solve.{SolveCall, is_lawful_solve, lawful_solve, solve_app, solve_files, solve_in}
use Rattle.ih_arguments.specs.Start.{freezes_a_file, start_files}
use Rattle.ih_words.specs.Words.{Call, call_of, call_named, chain, check, demo, gen, replay, rounds, salvage, solve, advise, IsWithinLimits, NamedCallsAreWithinLimits, OutDiffers}
use Rattle.ih_words.specs.declared.plain.TheConstants.{MAX_LENGTH, MAX_ROUNDS}

files-apart : (s : SolveCall) → all_differ (solve_files s) ≡ true → s.out ≢ s.journal
unfolding all_differ
files-apart s differ same =
    let rest = start_files s.start in
    let later = (and_parts (not (list_any (bytes_eq s.instance) (s.out ∷ s.journal ∷ rest))) (all_differ (s.out ∷ s.journal ∷ rest)) differ).1 in
    let none = not-true (list_any (bytes_eq s.out) (s.journal ∷ rest)) (and_parts (not (list_any (bytes_eq s.out) (s.journal ∷ rest))) (all_differ (s.journal ∷ rest)) later).0 in
    let apart = (or_parts (bytes_eq s.out s.journal) (list_any (bytes_eq s.out) rest) none).0 in
    let equal = (bytes_eq-Decides s.out s.journal).1 same in
    let clash : true ≡ false = sym equal ∙ apart in
    absurd (let no-way : true ≡ false = clash in cc)

-- ---- what the values of a command give

-- both facts of a call
abbrev Holds : Call → Type 0
Holds call = OutDiffers call × IsWithinLimits call

-- a command of all of whose calls they hold
any : {A : Type 0} (make : A → Call) → ((x : A) → Holds (make x)) → (o : Option A) (call : Call)
    → option_map make o ≡ Some call → Holds call
any make holds None call e = absurd (let no-way : None ≡ Some call = e in cc)
any make holds (Some x) call e = subst Holds (let f : Some (make x) ≡ Some call = e in cc) (holds x)

-- a command of whose lawful calls they do
lawful : {A : Type 0} (make : A → Call) (no-fault is-lawful : Bool) (x : A) → (is-lawful ≡ true → Holds (make x)) → (call : Call)
    → option_map make (if no-fault then if is-lawful then Some x else None else None) ≡ Some call → Holds call
lawful make true true x holds call e = subst Holds (let f : Some (make x) ≡ Some call = e in cc) (holds refl)
lawful make true false x holds call e = absurd (let no-way : None ≡ Some call = e in cc)
lawful make false is-lawful x holds call e = absurd (let no-way : None ≡ Some call = e in cc)

-- a lawful call has its number in its range, too
both : (no-fault is-number is-lawful : Bool) (x : PlainCall)
    → (if no-fault then if is-number then if is-lawful then Some x else None else None else None)
    ≡ (if no-fault then if is-number && is-lawful then Some x else None else None)
both true true is-lawful x = refl
both true false is-lawful x = refl
both false is-number is-lawful x = refl

-- the command whose name this is, or one of the rest
either : (t : Bool) (o rest : Option Call) (call : Call) → (o ≡ Some call → Holds call) → (rest ≡ Some call → Holds call)
    → (if t then o else rest) ≡ Some call → Holds call
either true o rest call own others e = own e
either false o rest call own others e = others e

-- ---- the commands

-- a plain search whose number and entries are few enough
within : (high : ℕ) (c : PlainCall) → c.search.options.retries ≡ 0 → c.search.start.freeze ≡ 0 → is_number_to high c.number ≡ true
    → is_lawful_plain c.search c.number ≡ true → IsWithin high c.search c.number
within high c once unfrozen number few =
    let range = and_parts (nat_le 1 c.number) (nat_le c.number high) number in
    record {
      once = once;
      unfrozen = unfrozen;
      some = leb-true 1 c.number range.0;
      most = leb-true c.number high range.1;
      few = leb-true (most_entries c.search.options * c.number) MAX_ENTRIES (and_parts (all_differ (solve_files c.search)) (nat_le (most_entries c.search.options * c.number) MAX_ENTRIES) few).1;
    }

module _ (words : List Text) (call : Call) where
  by_solve : option_map solve (call_by solve_app lawful_solve words) ≡ Some call → Holds call
  by_solve =
      let rows = matches_of solve_app words in
      lawful solve (has_no_fault solve_app words) (freezes_a_file rows && is_lawful_solve (solve_in rows)) (solve_in rows)
      (λ h. (files-apart (solve_in rows) (and_parts (all_differ (solve_files (solve_in rows))) _ (and_parts (freezes_a_file rows) _ h).1).0, tt)) call

  -- a command with a plain search
  by_plain : (make : PlainCall → Call) (app : App) (id : Text) (high : ℕ)
      → ((c : PlainCall) → c.search.out ≢ c.search.journal → IsWithin high c.search c.number → Holds (make c))
      → option_map make (call_by app (lawful_plain_to high id) words) ≡ Some call → Holds call
  by_plain make app id high holds e =
      let rows = matches_of app words in
      let c : PlainCall = record { search = plain_search_in rows; number = number_at id rows } in
      let no-fault = has_no_fault app words in
      let is-number = is_number_to high c.number in
      let is-lawful = is_lawful_plain c.search c.number in
      lawful make no-fault (is-number && is-lawful) c
      (λ h.
      let parts = and_parts is-number is-lawful h in
      holds c (files-apart c.search (and_parts (all_differ (solve_files c.search)) _ parts.1).0) (within high c refl refl parts.0 parts.1)) call
      (ap (option_map make) (sym (both no-fault is-number is-lawful c)) ∙ e)

  by_chain : option_map chain (call_by chain_app lawful_chain words) ≡ Some call → Holds call
  by_chain = by_plain chain chain_app (codes "length") MAX_LENGTH (λ c apart few. (apart, few))

  by_rounds : option_map rounds (call_by rounds_app lawful_rounds words) ≡ Some call → Holds call
  by_rounds = by_plain rounds rounds_app (codes "rounds") MAX_ROUNDS (λ c apart few. (apart, few))

  by_name : (name : Text) → call_named name words ≡ Some call → Holds call
  by_name name =
      either (bytes_eq name (codes "solve")) _ _ call by_solve
      (either (bytes_eq name (codes "replay")) _ _ call (any replay (λ x. (tt, tt)) (call_by (replay_app (codes "replay")) lawful_replay words) call)
      (either (bytes_eq name (codes "salvage")) _ _ call (any salvage (λ x. (tt, tt)) (call_by (replay_app (codes "salvage")) lawful_replay words) call)
      (either (bytes_eq name (codes "check")) _ _ call (any check (λ x. (tt, tt)) (call_by check_app lawful_check words) call)
      (either (bytes_eq name (codes "chain")) _ _ call by_chain
      (either (bytes_eq name (codes "rounds")) _ _ call by_rounds
      (either (bytes_eq name (codes "advise")) _ _ call (any advise (λ x. (tt, tt)) (call_by advise_app lawful_advise words) call)
      (either (bytes_eq name (codes "gen")) _ _ call (any gen (λ x. (tt, tt)) (call_by gen_app lawful_gen words) call)
      (either (bytes_eq name (codes "demo")) _ _ call (any demo (λ x. (tt, tt)) (call_by demo_app lawful_demo words) call)
      (λ e. absurd (let no-way : None ≡ Some call = e in cc))))))))))

  by_first : (o : Option Text) → option_and_then (λ name. call_named name words) o ≡ Some call → Holds call
  by_first None e = absurd (let no-way : None ≡ Some call = e in cc)
  by_first (Some name) e = by_name name e

holds : (words : List Text) (call : Call) → call_of words ≡ Some call → Holds call
unfolding call_of
holds words call e = by_first words call (slice_get words 0) e

-- the solution and the journal of the call that the words name go to two files
pub names-apart : (words : List Text) (call : Call) → call_of words ≡ Some call → OutDiffers call
names-apart words call e = (holds words call e).0

pub named-within : NamedCallsAreWithinLimits
named-within call (words, e) = (holds words call e).1
