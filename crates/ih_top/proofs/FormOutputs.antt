-- How chains and rounds end, and what is written and said of that.
use Rattle.std.proofs.Common.{◌≡◌, ◌∙◌, ℕ, ◌<◌, ◌^◌, refl, sym, ap, ap₂, subst, arith, false, true, length, List, Option, Some, None, [], ◌++◌}
use Rattle.std.specs.Prelude.{ℤ, Result, Ok, Err, IfOk}
use Rattle.std.proofs.lemmas.Bool.{ltb-true}
use Rattle.std.proofs.lemmas.List.{length-map}
use Rattle.ih_top.specs.Below.Wards.{Draft, IsPlanOf, Timetable, bill_of, solution, stay_of}
use Rattle.ih_top.specs.Below.Searches.{AcceptedPricesAreExact, AgreesBefore, Base, BestIs, ChainEntry, Found, IsBase, IsLawful, NoneFound, Options, Round, RoundsEnd, base_in, base_with, chain_journal, chain_tried, chain_tries}
use Rattle.ih_top.specs.Below.Searches.{journals, plan_at, tries}
use Rattle.ih_plan.specs.Frozen.{is_before}
use Rattle.ih_plan.specs.Presence.{day_of}
use Rattle.ih_cellbook.proofs.Unfrozen.{none-before}
use Rattle.ih_chain.specs.Runs.{IsRunOf, ChainRunState, best_plan}
use Rattle.ih_top.specs.declared.output.BestOutput.{BestOutput}
use Rattle.ih_top.specs.declared.output.Output.{Output}
use Rattle.ih_top.specs.Searches.{of_chains}
use Rattle.ih_top.specs.Outputs.{IsBestOfRun, HasBestOutput, IsOutput, HasBestMade}
use Rattle.ih_top.specs.Texts.{found_text}
use Rattle.ih_rounds.specs.Ends.{Ends, HaveRun, IsEnd}
use Rattle.ih_rounds.specs.Answers.{Answers}
use Rattle.ih_top.specs.Rounds.{FitsEnd, IsRoundSaid, round_report, HaveExactPrices, of_rounds}

-- ---- nothing lies before day 0

agrees-free : (b : Base) (P : Timetable) → b.freeze ≡ 0 → AgreesBefore b P
agrees-free b P free = record {
  kept = record {
    stays = λ p before.
        let no : false ≡ true = sym (none-before (stay_of b.start p)) ∙ ap (λ n. is_before n (stay_of b.start p)) (sym free) ∙ before in
        absurd cc;
    nurses = λ r k room shift early. absurd (omega (arith, ltb-true (day_of k) b.freeze early, free));
  };
  others = λ p before. ap (λ n. is_before n (stay_of P p)) free ∙ none-before (stay_of P p);
}

run-agrees : (b : Base) (H : List ChainEntry) → b.freeze ≡ 0 → (k : ℕ) → AgreesBefore b (plan_at b (chain_tries H) k)
run-agrees b H free k = agrees-free b (plan_at b (chain_tries H) k) free

-- ---- its best

run-best : (b : Base) (each : ℕ) (r : ChainRunState) (best : Option BestOutput) → IsRunOf b each r
    → IsBestOfRun b.instance r.best r.plan (length r.entries) best → HasBestOutput b (chain_tries r.entries) best
run-best b each r best is said = by_case r.best r.plan best is.best is.plan said
  where
    by_case : (found : Option (ℕ × ℤ)) (plan : Option Timetable) (o : Option BestOutput) → BestIs b (chain_tries r.entries) found
        → plan ≡ best_plan b r.entries found → IsBestOfRun b.instance found plan (length r.entries) o
        → HasBestOutput b (chain_tries r.entries) o
    by_case None plan None none same said = none
    by_case None plan (Some o) none same said = absurd said
    by_case (Some k) None o best same said =
        absurd (let no : None ≡ Some (plan_at b (chain_tries r.entries) k.0) = same in cc)
    by_case (Some k) (Some P) None best same said = absurd said
    by_case (Some k) (Some P) (Some o) best same said =
        let there : Some P ≡ Some (plan_at b (chain_tries r.entries) k.0) = same in
        let plan : P ≡ plan_at b (chain_tries r.entries) k.0 = cc in
        record {
          place = k.0;
          best = best.0;
          solution = said.0 ∙ ap (solution b.instance) plan;
          text = said.1
              ∙ ap₂ (λ n Q. found_text k.0 n b.instance.weights (bill_of b.instance Q)) (sym (length-map r.entries chain_tried)) plan;
        }

-- ---- all that it makes

-- with nothing frozen
chain-made : (I : Draft) (P : Timetable) (o : Options) (freeze each : ℕ) (r : ChainRunState) (out : Output) → IsPlanOf I P → IsLawful o → o.seed < 2 ^ 64
    → freeze ≡ 0 → IsRunOf (base_with I P o 0) each r → out.journal.items ≡ chain_journal r.options r.each r.entries
    → IsBestOfRun I r.best r.plan (length r.entries) out.best → IsOutput (of_chains each) (base_with I P o freeze) out
chain-made I P o freeze each r out fits lawful seed free is journal best =
    let b : Base = base_with I P o 0 in
    subst (λ (n : ℕ). IsOutput (of_chains each) (base_with I P o n) out) (sym free) (record {
      history = r.entries;
      given = record { start = fits; lawful = lawful };
      seed = seed;
      made = record {
        full = is.full;
        sound = record { given = record { start = fits; lawful = lawful }; agrees = run-agrees b r.entries refl; exact = is.exact };
      };
      journal = journal ∙ ap₂ (λ options n. chain_journal options n r.entries) is.options is.each;
      best = run-best b each r out.best is best;
    })

-- the same where memory may have run out
pub chain-result : {E : Type 0} (I : Draft) (P : Timetable) (o : Options) (freeze each : ℕ) (r : ChainRunState) (made : Result Output E) → IsPlanOf I P
    → IsLawful o → o.seed < 2 ^ 64 → freeze ≡ 0 → IsRunOf (base_with I P o 0) each r
    → IfOk made (λ out. out.journal.items ≡ chain_journal r.options r.each r.entries)
    → IfOk made (λ out. IsBestOfRun I r.best r.plan (length r.entries) out.best)
    → IfOk made (IsOutput (of_chains each) (base_with I P o freeze))
chain-result I P o freeze each r (Ok out) fits lawful seed free is journal best =
    chain-made I P o freeze each r out fits lawful seed free is journal best
chain-result I P o freeze each r (Err e) fits lawful seed free is journal best = tt

pub fits-end : (b : Base) (rs : List Round) (end : RoundsEnd) → IsEnd b rs end → FitsEnd b.instance end
fits-end b rs (Found q k count P) found = found.fits
fits-end b rs NoneFound none = tt

said-of : (count : ℕ) (b : Base) (rs : List Round) (end : RoundsEnd) (best : Option BestOutput) → IsEnd b rs end → IsRoundSaid b.instance end best
    → HasBestMade (of_rounds count) b rs best
said-of n b rs (Found q k count P) None found said = absurd said
said-of n b rs (Found q k count P) (Some o) found said = record {
  place = record { number = q; round = found.best.round; place = k };
  best = record { best = found.best; round = refl };
  solution = said.0 ∙ ap (solution b.instance) found.plan;
  text = said.1 ∙ ap (λ n. round_report q k n b.instance.weights (bill_of b.instance P)) found.count_is
      ∙ ap (λ Q. round_report q k (length found.best.round.history) b.instance.weights (bill_of b.instance Q)) found.plan;
}
said-of n b rs NoneFound None none said = none
said-of n b rs NoneFound (Some o) none said = absurd said

-- the accepted prices of rounds are exact
exact-in : AcceptedPricesAreExact → (b : Base) (count : ℕ) (before after : Answers) (old new : List ℕ) (run : HaveRun b count before after old new)
    → HaveExactPrices b run.rounds
exact-in law b count before after old new run q s there =
    law (base_in b q s) (tries s.history) (run.fits q s there) (λ k e here. ((run.legal q s there).full.legal k e here).entry)

pub output-of : AcceptedPricesAreExact → (b : Base) (count : ℕ) (before after : Answers) (old new : List ℕ) (end : RoundsEnd) (o : Output) → IsBase b → b.options.seed < 2 ^ 64 → old ≡ []
    → Ends b count before after old new end → IsRoundSaid b.instance end o.best → o.journal.items ≡ new → IsOutput (of_rounds count) b o
output-of law b count before after old new end o given seed empty ends said whole = record {
  history = ends.run.rounds;
  given = given;
  seed = seed;
  made = record { count_is = ends.run.count_is; legal = ends.run.legal; exact = exact-in law b count before after old new ends.run };
  journal = whole ∙ ends.run.written ∙ ap (λ t. t ++ journals b.options 0 ends.run.rounds) empty;
  best = said-of count b ends.run.rounds end o.best ends.end_is said;
}

-- what was made with no freeze day is made where that is day 0
pub output-unfrozen : (I : Draft) (P : Timetable) (o : Options) (freeze count : ℕ) (made : Output) → freeze ≡ 0
    → IsOutput (of_rounds count) (base_with I P o 0) made → IsOutput (of_rounds count) (base_with I P o freeze) made
output-unfrozen I P o freeze count made free is = subst (λ (n : ℕ). IsOutput (of_rounds count) (base_with I P o n) made) (sym free) is
