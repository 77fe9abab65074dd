-- A history is full once each worker has finished by a beginning of it.
use Rattle.std.proofs.Common.{◌≡◌, ℕ, ◌<◌, sym, ap, ◌∙◌, refl, inl, inr, List, ◌++◌}
use Rattle.std.specs.Prelude.{slice_get}
use Rattle.ih_journal.specs.Tried.{Tried}
use Rattle.ih_journal.specs.declared.settings.Options.{Options}
use Rattle.ih_journal.specs.Attempts.{is_done, is_done_after}
use Rattle.ih_journal.specs.Base.{Base}
use Rattle.ih_journal.specs.Legal.{IsFull}
use Rattle.ih_cellbook.specs.Laws.{HasNoneBy}
use Rattle.ih_cellbook.specs.Legal.{AreLegalButDraws}
use Rattle.ih_cellbook.proofs.Staying.{last_by-others}
use Rattle.ih_turn.specs.Rule.{GoesOn}
use Rattle.ih_desk.proofs.HistoryLemmas.{none_by-others}
use Rattle.ih_desk.specs.Finishing.{AreDrawn, HasFinished}
use Rattle.ih_plan.proofs.ReadLemmas.{get-append}

-- others' entries, and others' after them
pub none-both : (w : ℕ) (es fs : List Tried) → HasNoneBy w es → HasNoneBy w fs → HasNoneBy w (es ++ fs)
none-both w es fs one two k e there own = elim (get-append es fs k e there) [
  | inl earlier ↦ one k e earlier own
  | inr later ↦ two later.0 e later.1 own
]

done-others : (o : Options) (w : ℕ) (H es : List Tried) → HasNoneBy w es → is_done o (H ++ es) w ≡ is_done o H w
unfolding is_done
done-others o w H es none = ap (is_done_after o) (last_by-others w H es none)

-- others' entries leave a worker's own drawn
pub drawn-others : (b : Base) (each w : ℕ) (H es : List Tried) → HasNoneBy w es → AreDrawn b each w H → AreDrawn b each w (H ++ es)
drawn-others b each w H es none drawn k e there own = elim (get-append H es k e there) [
  | inl earlier ↦ drawn k e earlier own
  | inr other ↦ absurd (none other.0 e other.1 own)
]

pub full : (b : Base) (each : ℕ) (H : List Tried) → AreLegalButDraws b H
    → ((w : ℕ) → w < b.options.workers → (seen : List Tried) × GoesOn (λ e. e.worker) w seen H × HasFinished b each w seen) → IsFull b each H
full b each H legal all = record {
  legal = λ k e there.
      let entry = legal k e there in
      let mine = all e.worker entry.worker in
      let drawn = drawn-others b each e.worker mine.0 mine.1.others (none_by-others e.worker mine.1.others mine.1.none) mine.2.drawn in
      record { entry = entry; drawn = drawn k e (ap (λ G. slice_get G k) (sym mine.1.history) ∙ there) refl };
  done = λ w known.
      let mine = all w known in
      ap (λ G. is_done b.options G w) mine.1.history ∙ (done-others b.options w mine.0 mine.1.others (none_by-others w mine.1.others mine.1.none) ∙ mine.2.done);
}
