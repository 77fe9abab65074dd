-- The smallest whole run: its two entries, its best, and its texts.
use Rattle.std.proofs.Common.{◌≡◌, refl, ℕ, zero, suc, pos, negsuc, ◌<◌, ◌≤◌, Some, None, true, false, [], ◌∷◌, lit<, lit≤, arith, List, subst}
use Rattle.std.specs.Prelude.{codes, slice_get, ◌≤ℤ◌, ◌<ℤ◌}
use Rattle.ih_tables.specs.declared.bills.Bill.{Bill}
use Rattle.ih_tables.specs.Bills.{feasible, score}
use Rattle.ih_plan.specs.Timetable.{empty}
use Rattle.ih_plan.specs.BillOf.{bill_of}
use Rattle.ih_plan.proofs.ExampleWards.{one_room, bill9, weights}
use Rattle.ih_plan.proofs.MoveExamples.{nurse_run, nurse}
use Rattle.ih_journal.specs.declared.settings.Options.{Options}
use Rattle.ih_journal.specs.declared.entries.Entry.{Entry}
use Rattle.ih_journal.specs.declared.entries.Verdict.TheVariants.{Accepted}
use Rattle.ih_journal.specs.Base.{Base}
use Rattle.ih_journal.specs.Tried.{Tried, tried, tries}
use Rattle.ih_journal.specs.Attempts.{is_done}
use Rattle.ih_journal.specs.History.{plan_at}
use Rattle.ih_journal.specs.Legal.{IsLegal, AreLegal, IsFull}
use Rattle.ih_journal.specs.Best.{IsBest, IsFeasibleAt, cost_at}
use Rattle.ih_journal.specs.Texts.{journal}
use Rattle.ih_journal.proofs.Literals.{history_on_literals, options, base, entry}

abbrev pub small_options : Options
small_options = options 0 1 2 0 0

-- from nothing, on the instance without patients
abbrev pub small_base : Base
small_base = base one_room (empty one_room) 0 small_options

abbrev pub first_price : Bill
first_price = record {
  v = pos 0 ∷ pos 0 ∷ pos 0 ∷ pos 0 ∷ pos 0 ∷ pos 0 ∷ pos 0 ∷ pos 0 ∷ negsuc 2 ∷ [];
  s = pos 0 ∷ pos 1 ∷ pos 1 ∷ pos 0 ∷ pos 0 ∷ pos 0 ∷ pos 0 ∷ pos 0 ∷ [];
}

abbrev pub first_entry : Entry
first_entry = entry 0 0 0 0 (nurse_run 0 0 0 5) first_price Accepted

abbrev pub second_entry : Entry
second_entry = entry 0 1 0 1 (nurse 0 2 0) (bill9 0 0 0 0 0 0 0 0 0 0 0 0 0 0 0 0 0) Accepted

abbrev pub small_history : List Entry
small_history = first_entry ∷ second_entry ∷ []

pub first_score : score 1000 weights first_price ≡ negsuc 2987
unfolding history_on_literals
first_score = refl

pub first_legal : IsLegal small_base 1 [] (tried first_entry)
unfolding history_on_literals
first_legal = record {
  entry = record {
    worker = lit< tt;
    attempt = refl;
    move = ((lit< tt, lit< tt, lit< tt, lit≤ tt, lit≤ tt), tt);
    seen = lit≤ tt;
    after_own = λ j f h w. absurd (let no : None ≡ Some f = h in cc);
    price = refl;
    verdict = refl;
  };
  drawn = refl;
}

only_first : (j : ℕ) (f : Tried) → slice_get (tried first_entry ∷ []) j ≡ Some f → j < 1
only_first zero f h = lit< tt
only_first (suc j) f h = absurd (let no : None ≡ Some f = h in cc)

pub second_legal : IsLegal small_base 1 (tried first_entry ∷ []) (tried second_entry)
unfolding history_on_literals
second_legal = record {
  entry = record {
    worker = lit< tt;
    attempt = refl;
    move = ((lit< tt, lit< tt, lit< tt), tt);
    seen = lit≤ tt;
    after_own = λ j f h w. only_first j f h;
    price = refl;
    verdict = refl;
  };
  drawn = refl;
}

both_legal : AreLegal small_base 1 (tries small_history)
both_legal zero e h = let same : tried first_entry ≡ e = cc in subst (IsLegal small_base 1 []) same first_legal
both_legal (suc zero) e h = let same : tried second_entry ≡ e = cc in subst (IsLegal small_base 1 (tried first_entry ∷ [])) same second_legal
both_legal (suc (suc k)) e h = absurd (let no : None ≡ Some e = h in cc)

all_done : (w : ℕ) → w < 1 → is_done small_options (tries small_history) w ≡ true
unfolding history_on_literals
all_done zero h = refl
all_done (suc w) h = absurd (omega arith)

pub small_full : IsFull small_base 1 (tries small_history)
small_full = record { legal = both_legal; done = all_done }

-- the bills of the three places: the start isn't feasible, and the other two cost 12
pub small_bills : (bill_of one_room (plan_at small_base (tries small_history) 0) ≡ bill9 0 0 0 0 0 0 0 0 3 0 0 0 0 0 0 0 0)
    × (cost_at small_base (tries small_history) 1 ≡ pos 12) × (cost_at small_base (tries small_history) 2 ≡ pos 12)
    × (feasible (bill_of one_room (plan_at small_base (tries small_history) 1)) ≡ true)
unfolding history_on_literals
small_bills = (refl, refl, refl, refl)

pub small_journal : journal small_options small_history
    ≡ codes "ihjournal 1 seed=0 workers=1 moves=2 heat=0 hard=1000\n0 0 0 0 nurserun:0,0,0,5 0,0,0,0,0,0,0,0,-3,0,1,1,0,0,0,0,0 accepted\n1 0 1 1 nurse:0,2,0 0,0,0,0,0,0,0,0,0,0,0,0,0,0,0,0,0 accepted\n"
unfolding history_on_literals
small_journal = refl

-- the same where a stale move may be tried again
pub small_journal_with_tries : journal (options 0 1 2 0 1) small_history
    ≡ codes "ihjournal 2 seed=0 workers=1 moves=2 heat=0 hard=1000 retries=1\n0 0 0 0 0 nurserun:0,0,0,5 0,0,0,0,0,0,0,0,-3,0,1,1,0,0,0,0,0 accepted\n1 0 1 0 1 nurse:0,2,0 0,0,0,0,0,0,0,0,0,0,0,0,0,0,0,0,0 accepted\n"
unfolding history_on_literals
small_journal_with_tries = refl

-- Place 1 is the best: the start isn't feasible, and place 2 costs as much.
not_at_start : feasible (bill_of one_room (plan_at small_base (tries small_history) 0)) ≡ true → ⊥
unfolding history_on_literals
not_at_start h = let no : false ≡ true = h in cc

cheapest : (j : ℕ) → j ≤ 2 → IsFeasibleAt small_base (tries small_history) j → cost_at small_base (tries small_history) 1 ≤ℤ cost_at small_base (tries small_history) j
unfolding history_on_literals
cheapest zero h works = absurd (not_at_start works)
cheapest (suc zero) h works = record { le = tt }
cheapest (suc (suc zero)) h works = record { le = tt }
cheapest (suc (suc (suc j))) h works = absurd (omega arith)

first : (j : ℕ) → j < 1 → IsFeasibleAt small_base (tries small_history) j → cost_at small_base (tries small_history) 1 <ℤ cost_at small_base (tries small_history) j
first zero h works = absurd (not_at_start works)
first (suc j) h works = absurd (omega arith)

pub small_best : IsBest small_base (tries small_history) 1
unfolding history_on_literals
small_best = record { place = lit≤ tt; works = refl; cheapest = cheapest; first = first }
