use Rattle.std.proofs.Common.{◌≡◌, ◌∙◌, ℕ, suc, refl, sym, subst, ap, arith, List, [], ◌∷◌, ◌++◌, append_assoc, Some}
use Rattle.std.proofs.lemmas.List.{length-map}
use Rattle.std.specs.Prelude.{Bool, cond, Ok}
use Rattle.std.proofs.lemmas.List.Sums.{sum_by-cons}
use Rattle.ih_top.specs.Below.Wards.{Draft, Timetable, empty, instance}
use Rattle.ih_top.specs.Below.Searches.{AreExact, AreLegal, Base, BestIs, Entry, IsFull, Options, Tried, base_with, fill, is_stale, tried, tries}
use Rattle.ih_gen.specs.Generated.{generated}
use Rattle.ih_journal.specs.Laws.{HasNoneStale}
use Rattle.ih_journal.proofs.LoneWorkers.{lone-fresh, lone-moves}
use Rattle.ih_top.specs.Demo.{IsDemo, IsDemoBase, demo_options}
use Rattle.ih_top.specs.Texts.{counts_line, demo_line, demo_text, done_text, verdicts_of}
use Rattle.ih_top.specs.Outputs.{HasBestOutput}
use Rattle.ih_top.proofs.demo.search_from_fill.Goals as goal

-- 1 where it is so, else 0
abbrev bit_of : Bool → ℕ
bit_of b = cond b 1 0

none-counted : (H : List Entry) → HasNoneStale (tries H) → verdicts_of is_stale H ≡ 0
none-counted [] fresh = refl
none-counted (e ∷ es) fresh =
    let split = sum_by-cons (λ (x : Entry). bit_of (is_stale x.verdict)) e es in
    let here : bit_of (is_stale e.verdict) ≡ 0 = ap bit_of (fresh 0 (tried e) refl) in
    let rest = none-counted es (λ k f at. fresh (suc k) f at) in
    omega (arith, split, here, rest)

is-demo : (number : ℕ) (b : Base) (H : List Entry) → IsDemoBase number b → IsFull b 1 (tries H) → AreExact b (tries H) → IsDemo number b H
is-demo number b H base full exact =
    let lone : b.options.workers ≡ 1 = ap (λ o. o.workers) base.options in
    let moves : b.options.moves ≡ 2000 = ap (λ o. o.moves) base.options in
    record {
      base = base;
      full = full;
      exact = exact;
      many = (let all = lone-moves b 1 (tries H) lone full in let len = length-map H tried in omega (arith, all, len, moves));
      fresh = none-counted H (lone-fresh b 1 (tries H) lone full.legal);
    }

-- the history of a full search from the fill of the number's instance is a demo's
searched-demo : (number : ℕ) (I : Draft) (start : Timetable) (options : Options) (d : Base) (H : List Entry) (T : List Tried)
    → instance (generated number) ≡ Ok I → start ≡ fill I 100000 (empty I) → options ≡ demo_options number → tries H ≡ T
    → IsFull (base_with I start options 0) 1 T → d ≡ base_with I start options 0 → AreExact d T
    → IsDemo number (base_with I start options 0) H
searched-demo number I start options d H T from filled chosen is full same exact =
    let b : Base = base_with I start options 0 in
    is-demo number b H (record { instance = from; start = filled; options = chosen; freeze = refl }) (subst (IsFull b 1) (sym is) full)
    (subst (AreExact b) (sym is) (subst (λ (b : Base). AreExact b T) same exact))

-- its text, piece by piece
demo-said : (number : ℕ) (b : Base) (H : List Entry) (k : ℕ) (text said : List ℕ) → said ≡ done_text b (tries H) k
    → text ≡ (demo_line number ++ counts_line H) ++ said
    → text ≡ demo_text number b H k
demo-said number b H k text said best is =
    is ∙ (append_assoc (demo_line number) (counts_line H) said ∙ ap (λ t. demo_line number ++ (counts_line H ++ t)) best)

pub best_of-requires-clause-legal : goal.best_of-requires-clause-legal
best_of-requires-clause-legal g c =
    let b : Base = base_with c.args.inst.now.draft c.in_ok-start.start c.demo_options-options.result 0 in
    subst (AreLegal b 1) (sym c.entries-entries.ensures.entries) c.in_ok-book.ensures.full.legal

pub best_of-requires-clause-best : goal.best_of-requires-clause-best
best_of-requires-clause-best g c =
    let b : Base = base_with c.args.inst.now.draft c.in_ok-start.start c.demo_options-options.result 0 in
    subst (λ es. BestIs b es c.best.result) (sym c.entries-entries.ensures.entries)
    (subst (λ (d : Base). BestIs d c.in_ok-book.book.entries c.best.result) c.in_ok-book.ensures.base c.best.ensures)

pub returns-in-None : goal.returns-in-None
returns-in-None g c =
    let b : Base = base_with c.args.inst.now.draft c.in_ok-start.start c.demo_options-options.result 0 in
    let es = c.entries-entries.result.now in
    let demo =
    searched-demo c.args.seed c.args.inst.now.draft c.in_ok-start.start c.demo_options-options.result _ es c.in_ok-book.book.entries c.requires
    (c.in_ok-start.ensures.filled ∙ ap (fill c.args.inst.now.draft 100000) c.in_ok-empty.ensures) c.demo_options-options.ensures
    c.entries-entries.ensures.entries c.in_ok-book.ensures.full c.in_ok-book.ensures.base c.entries-entries.ensures.exact in
    record { base = b; history = es; demo = demo; said_is = subst (HasBestOutput b (tries es)) c.in-None.is c.in_ok-best_of.ensures }

pub returns : goal.returns
returns g c =
    let b : Base = base_with c.args.inst.now.draft c.in_ok-start.start c.demo_options-options.result 0 in
    let es = c.entries-entries.result.now in
    let best : HasBestOutput b (tries es) (Some c.in-Some.best) = subst (HasBestOutput b (tries es)) c.in-Some.is c.in_ok-best_of.ensures in
    let demo =
    searched-demo c.args.seed c.args.inst.now.draft c.in_ok-start.start c.demo_options-options.result _ es c.in_ok-book.book.entries c.requires
    (c.in_ok-start.ensures.filled ∙ ap (fill c.args.inst.now.draft 100000) c.in_ok-empty.ensures) c.demo_options-options.ensures
    c.entries-entries.ensures.entries c.in_ok-book.ensures.full c.in_ok-book.ensures.base c.entries-entries.ensures.exact in
    record {
      base = b;
      history = es;
      demo = demo;
      said_is = (
        best.place,
        best.best,
        demo-said c.args.seed b es best.place c.in_ok-demo_said-in-Some.field-0.items c.in-Some.best.text.items best.text
            c.in_ok-demo_said-in-Some.ensures,
      );
    }
