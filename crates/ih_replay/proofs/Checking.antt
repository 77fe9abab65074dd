-- Whether an entry is of its worker's next attempt, by what is kept of the worker.
use Rattle.std.proofs.Common.{◌≡◌, ℕ, ◌<◌, ◌≤◌, ◌^◌, refl, arith, sym, ap, ◌∙◌, true, false, List, [], ◌∷◌, length, Some}
use Rattle.std.specs.List.{AllByRecursion}
use Rattle.ih_plan.specs.Draws.{move_of}
use Rattle.ih_journal.specs.declared.entries.Entry.{Entry}
use Rattle.ih_journal.specs.Tried.{Tried}
use Rattle.ih_tables.specs.declared.journal_refusals.Reason.TheVariants.{Worker, Number, Try, Seen, Move}
use Rattle.ih_journal.specs.Attempts.{TryNumber, next_try}
use Rattle.ih_journal.specs.Base.{Base}
use Rattle.ih_journal.specs.Legal.{AreLegal}
use Rattle.ih_cellbook.specs.Keeping.{IsBase}
use Rattle.ih_cellbook.specs.Offers.{HasSeenOwn, next_number}
use Rattle.ih_cellbook.proofs.EntryLimits.{next-below}
use Rattle.ih_replay.specs.declared.workers.ReplayWorker.{ReplayWorker as Workers}
use Rattle.ih_replay.specs.Keeping.{IsWorkerIn}
use Rattle.ih_replay.specs.Refusals.{FitsIn, IsFirstOf, IsGoing, of_attempt}
use Rattle.ih_replay.proofs.Attempts.{below-going, going-below, next-is, number-of, past-done}
use Rattle.ih_replay.proofs.Lines.{legal-but}

some-same : (m n : ℕ) → Some m ≡ Some n → m ≡ n
some-same m n h = cc

same-attempt : (a b : TryNumber) → Some a ≡ Some b → a ≡ b
same-attempt a b h = cc

module _ (b : Base) (H : List Tried) (e : Entry) (x : Workers) (legal : AreLegal b 1 H) (kept : IsWorkerIn b H e.worker x) (known : e.worker < b.options.workers) where
  next : x.number < b.options.moves → next_try b.options H e.worker ≡ Some (record { number = x.number; again = x.again })
  next below = next-is b H e.worker x.number x.again (legal-but b H legal) kept.attempt below

  going : x.number < b.options.moves → IsGoing b H e.worker
  going below = (known, below-going b H e.worker x.number x.again (legal-but b H legal) kept.attempt below)

  number : x.number < b.options.moves → next_number b.options H e.worker ≡ Some x.number
  number below = number-of b.options H e.worker (record { number = x.number; again = x.again }) (next below)

  pub worker-done : b.options.moves ≤ x.number → IsFirstOf (FitsIn b H (length H) e) of_attempt Worker
  worker-done past = record {
    earlier = [];
    later = Number ∷ Try ∷ Seen ∷ Move ∷ [];
    listed = refl;
    passed = tt;
    fails = λ goes.
        let ends = past-done b H e.worker x.number x.again (legal-but b H legal) kept.attempt past in
        let on = goes.1 in
        absurd (let no : true ≡ false = sym ends ∙ on in cc);
  }

  module _ (below : x.number < b.options.moves) where
    pub number-other : (e.number ≡ x.number → ⊥) → IsFirstOf (FitsIn b H (length H) e) of_attempt Number
    number-other other = record {
      earlier = Worker ∷ [];
      later = Try ∷ Seen ∷ Move ∷ [];
      listed = refl;
      passed = (going below, tt);
      fails = λ is. other (some-same e.number x.number (sym is ∙ number below));
    }

    module _ (same : e.number ≡ x.number) where
      own-number : next_number b.options H e.worker ≡ Some e.number
      own-number = number below ∙ ap (λ n. Some n) (sym same)

      pub try-other : (e.again ≡ x.again → ⊥) → IsFirstOf (FitsIn b H (length H) e) of_attempt Try
      try-other other = record {
        earlier = Worker ∷ Number ∷ [];
        later = Seen ∷ Move ∷ [];
        listed = refl;
        passed = (going below, (own-number, tt));
        fails = λ is. other (ap (λ (a : TryNumber). a.again) (same-attempt (record { number = e.number; again = e.again }) (record { number = x.number; again = x.again }) (sym is ∙ next below)));
      }

      module _ (again : e.again ≡ x.again) where
        own-try : next_try b.options H e.worker ≡ Some (record { number = e.number; again = e.again })
        own-try = rw (same, again) (next below)

        pub seen-other : ((e.seen ≤ length H) × HasSeenOwn H e.worker e.seen → ⊥) → IsFirstOf (FitsIn b H (length H) e) of_attempt Seen
        seen-other other = record {
          earlier = Worker ∷ Number ∷ Try ∷ [];
          later = Move ∷ [];
          listed = refl;
          passed = (going below, (own-number, (own-try, tt)));
          fails = other;
        }

        module _ (seen : (e.seen ≤ length H) × HasSeenOwn H e.worker e.seen) where
          drawn : x.draw ≡ move_of b.instance b.options.seed e.worker e.number
          drawn = kept.draw ∙ ap (move_of b.instance b.options.seed e.worker) (sym same)

          pub move-other : (e.mv ≡ x.draw → ⊥) → IsFirstOf (FitsIn b H (length H) e) of_attempt Move
          move-other other = record {
            earlier = Worker ∷ Number ∷ Try ∷ Seen ∷ [];
            later = [];
            listed = refl;
            passed = (going below, (own-number, (own-try, (seen, tt))));
            fails = λ is. other (is ∙ sym drawn);
          }

          pub attempt-holds : e.mv ≡ x.draw → AllByRecursion (FitsIn b H (length H) e) of_attempt
          attempt-holds move = (going below, (own-number, (own-try, (seen, (move ∙ drawn, tt)))))

  -- ---- the other way round

  module _ (all : AllByRecursion (FitsIn b H (length H) e) of_attempt) where
    least : (e.number < b.options.moves) × (e.again ≤ b.options.retries)
    least = let most = next-below b H e.worker (record { number = e.number; again = e.again }) (legal-but b H legal) all.1.1.0 in (most.0, most.1)

    below-all : x.number < b.options.moves
    below-all = going-below b H e.worker x.number x.again (legal-but b H legal) kept.attempt all.0.1

    pub own-attempt : (e.number ≡ x.number) × (e.again ≡ x.again)
    own-attempt =
        let same = same-attempt (record { number = e.number; again = e.again }) (record { number = x.number; again = x.again }) (sym all.1.1.0 ∙ next below-all) in
        (ap (λ (a : TryNumber). a.number) same, ap (λ (a : TryNumber). a.again) same)

    pub small : IsBase b → (x.number < 2 ^ 31) × (x.again < 2 ^ 31)
    small base =
        let o = base.lawful in
        let moves = o.moves in
        let retries = o.retries in
        let number = least.0 in
        let again = least.1 in
        let own = own-attempt in
        let n = own.0 in
        let a = own.1 in
        (omega (arith, moves, number, n), omega (arith, retries, again, a))
