-- Which workers have attempts left, by what is kept of them.
use Rattle.std.proofs.Common.{◌≡◌, ℕ, ◌+◌, ◌<◌, ◌≤◌, arith, sym, subst, inl, inr, true, List, length}
use Rattle.std.specs.Prelude.{slice_index_or}
use Rattle.std.proofs.lemmas.Bool.{cases_eq}
use Rattle.std.proofs.lemmas.Option.{slice_get-get_or}
use Rattle.ih_journal.specs.Tried.{Tried}
use Rattle.ih_journal.specs.Attempts.{is_done}
use Rattle.ih_journal.specs.Base.{Base}
use Rattle.ih_replay.specs.declared.workers.ReplayWorker.{ReplayWorker}
use Rattle.ih_replay.specs.Keeping.{IsReplayed, IsWorkerIn}
use Rattle.ih_replay.specs.Refusals.{IsGoing}
use Rattle.ih_replay.proofs.Attempts.{below-going, past-done}
use Rattle.ih_replay.proofs.Lines.{legal-but}

module _ (b : Base) (H : List Tried) (xs : List ReplayWorker) (kept : IsReplayed b H xs) (i : ℕ) (d : ReplayWorker) where
  pub worker-at : i < b.options.workers → IsWorkerIn b H i (slice_index_or xs i d)
  worker-at known = let many = kept.many in kept.each i (slice_index_or xs i d) (slice_get-get_or xs i d (omega (arith, known, many)))

  pub going-at : i < length xs → (slice_index_or xs i d).number < b.options.moves → (w : ℕ) × IsGoing b H w
  going-at inside below =
      let many = kept.many in
      let known : i < b.options.workers = omega (arith, inside, many) in
      let x = slice_index_or xs i d in
      (i, (known, below-going b H i x.number x.again (legal-but b H kept.legal) (worker-at known).attempt below))

  pub done-at : i < length xs → b.options.moves ≤ (slice_index_or xs i d).number → is_done b.options H i ≡ true
  done-at inside past =
      let many = kept.many in
      let known : i < b.options.workers = omega (arith, inside, many) in
      let x = slice_index_or xs i d in
      past-done b H i x.number x.again (legal-but b H kept.legal) (worker-at known).attempt past

  pub done-more : ((w : ℕ) → w < i → is_done b.options H w ≡ true) → is_done b.options H i ≡ true → (w : ℕ) → w < i + 1 → is_done b.options H w ≡ true
  done-more before here w h = elim (cases_eq w i) [
    | inl same ↦ subst (λ v. is_done b.options H v ≡ true) (sym same) here
    | inr other ↦ before w (omega (arith, h, other))
  ]
