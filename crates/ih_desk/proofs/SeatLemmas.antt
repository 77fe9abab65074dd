-- Seats and workers, one by one.
use Rattle.std.proofs.Common.{◌≡◌, ℕ, zero, suc, ◌<◌, arith, refl, sym, ap, ◌∙◌, subst, List, [], ◌∷◌, ◌++◌, length, map, take, drop, Some, None, get_or}
use Rattle.std.specs.Prelude.{All, slice_get, slice_index}
use Rattle.std.specs.List.{AllZip}
use Rattle.std.proofs.lemmas.Option.{slice_get-get_or, slice_get_within}
use Rattle.std.proofs.lemmas.Slice.Zip.{AllZip-long}
use Rattle.std.proofs.Math.Seq.{take-append_seam}
use Rattle.ih_journal.specs.Tried.{Tried}
use Rattle.ih_journal.specs.Base.{Base}
use Rattle.ih_journal.specs.Legal.{IsFull}
use Rattle.ih_cellbook.specs.Legal.{AreLegalButDraws}
use Rattle.ih_turn.specs.Seats.{history, number_of}
use Rattle.ih_desk.specs.Desks.{Desk, DeskSeat, IsSeatAt, base_of, worker_count}
use Rattle.ih_turn.specs.Rule.{GoesOn}
use Rattle.ih_desk.specs.Finishing.{FinishedSearchesAreFull, HasFinished}
use Rattle.ih_desk.proofs.HistoryLemmas.{index-get}
use Rattle.ih_desk.proofs.Lengths.{may-work}
use Rattle.ih_desk.specs.Searching.{HaveFinished, HaveLeft, IsFresh, IsOpened}
use Rattle.ih_desk.specs.Workers.{HasWorked, Holds, IsNewWorker, MayWork, Worker}

-- ---- lists side by side

pub zip-last : {A B : Type 0} (R : A → B → Type 0) (xs : List A) (ys : List B) (x : A) (y : B) → AllZip R xs ys → R x y → AllZip R (xs ++ x ∷ []) (ys ++ y ∷ [])
zip-last R [] [] x y all r = (r, tt)
zip-last R [] (z ∷ zs) x y all r = absurd all
zip-last R (w ∷ ws) [] x y all r = absurd all
zip-last R (w ∷ ws) (z ∷ zs) x y all r = (all.0, zip-last R ws zs x y all.1 r)

-- what stands beside an element
beside : {A B : Type 0} (R : A → B → Type 0) (xs : List A) (ys : List B) (k : ℕ) (x : A) → AllZip R xs ys → slice_get xs k ≡ Some x → (y : B) × (slice_get ys k ≡ Some y) × R x y
beside {A} {B} R [] ys k x all there = absurd (let no : None ≡ Some x = there in cc)
beside R (w ∷ ws) [] k x all there = absurd all
beside R (w ∷ ws) (z ∷ zs) zero x all there = let same : w ≡ x = cc in (z, refl, subst (λ v. R v z) same all.0)
beside R (w ∷ ws) (z ∷ zs) (suc k) x all there = beside R ws zs k x all.1 there

zip-flip : {A B : Type 0} (R : A → B → Type 0) (xs : List A) (ys : List B) → AllZip R xs ys → AllZip (λ y x. R x y) ys xs
zip-flip R [] [] all = tt
zip-flip R [] (z ∷ zs) all = absurd all
zip-flip R (w ∷ ws) [] all = absurd all
zip-flip R (w ∷ ws) (z ∷ zs) all = (all.0, zip-flip R ws zs all.1)

map-at : {A : Type 0} (f : A → ℕ) (xs : List A) (k : ℕ) (x : A) → slice_get xs k ≡ Some x → slice_get (map f xs) k ≡ Some (f x)
map-at f [] k x there = absurd (let no : None ≡ Some x = there in cc)
map-at f (y ∷ ys) zero x there = let same : y ≡ x = cc in ap (λ z. Some (f z)) same
map-at f (y ∷ ys) (suc k) x there = map-at f ys k x there

index-at : (xs : List ℕ) (k x : ℕ) → slice_get xs k ≡ Some x → slice_index xs k ≡ x
index-at [] k x there = absurd (let no : None ≡ Some x = there in cc)
index-at (y ∷ ys) zero x there = cc
index-at (y ∷ ys) (suc k) x there = index-at ys k x there

-- ---- the workers before their search

module _ (b : Base) (each : ℕ) (desk : Desk) (seats : List DeskSeat) (opened : IsOpened b desk seats) where
  fresh-at : (k : ℕ) (s : DeskSeat) → slice_get seats k ≡ Some s → IsFresh desk s
  fresh-at k s there = subst (IsFresh desk) (index-get seats k s s there) (opened.fresh k s (slice_get_within seats k s there))

  number-at : (k : ℕ) (s : DeskSeat) → slice_get seats k ≡ Some s → number_of s ≡ k
  number-at k s there =
      let below = slice_get_within seats k s there in
      let many = opened.many in
      sym (index-at (map number_of seats) k (number_of s) (map-at number_of seats k s there)) ∙ opened.numbers k (omega (arith, below, many))

  module _ (workers : List Worker) (seated : AllZip (IsNewWorker b each) workers seats) where
    as-many : length workers ≡ length seats
    as-many = sym (AllZip-long (IsNewWorker b each) workers seats seated)

    pub all-ready : All (MayWork desk) workers
    all-ready k d below =
        let z = beside (IsNewWorker b each) workers seats k (get_or workers k d) seated (slice_get-get_or workers k d below) in
        let fresh = fresh-at k z.0 z.1 in
        may-work each desk (get_or workers k d) (record {
          seat = z.0;
          new = subst (λ c. IsNewWorker c each (get_or workers k d) z.0) (sym opened.base) z.2;
          own = fresh.own;
          made = fresh.made;
          turns = (let turns = fresh.turns in omega (arith, turns));
        })

    -- ---- and after it

    module _ (len : ℕ) (slice news : List Worker) (value : slice ≡ workers) (long : len ≡ length workers) (as-long : length news ≡ length slice)
        (worked : (k : ℕ) (d : Worker) → k < length slice → HasWorked desk (get_or slice k d) (get_or news k d)) where
      -- what the vector holds behind the slice by which they ran
      abbrev after : List Worker
      after = take len (news ++ drop (length news) workers)

      finished : HaveFinished desk workers after
      finished =
          let many : length news ≡ length workers = as-long ∙ ap length value in
          let rest = drop (length news) workers in
          let same : after ≡ news = ap (λ n. take n (news ++ rest)) (long ∙ sym many) ∙ take-append_seam news rest in
          subst (HaveFinished desk workers) (sym same)
          (record { len = many; each = λ k d h. subst (λ ws. HasWorked desk (get_or ws k d) (get_or news k d)) value (worked k d (subst (λ ws. k < length ws) (sym value) h)) })

      pub as-many-after : length after ≡ length seats
      as-many-after = finished.len ∙ as-many

      module _ (first back : List DeskSeat) (none : first ≡ []) (left : HaveLeft after first back) where
        left-zip : AllZip Holds after back
        left-zip = subst (AllZip Holds after) (sym (left.joins ∙ ap (λ ss. ss ++ left.added) none)) left.each

        as-many-back : length back ≡ length seats
        as-many-back = AllZip-long Holds after back left-zip ∙ as-many-after

        record Back (k : ℕ) (s : DeskSeat) : Type 0 where
          own : IsSeatAt desk s
          number : number_of s ≡ k
          done : HasFinished b each k (history s)

        back-at : (k : ℕ) (s : DeskSeat) → slice_get back k ≡ Some s → Back k s
        back-at k s there =
            let w = beside (λ s w. Holds w s) back after k s (zip-flip Holds after back left-zip) there in
            let below = slice_get_within after k w.0 w.1 in
            let len = finished.len in
            let inside : k < length workers = omega (arith, below, len) in
            let z = beside (IsNewWorker b each) workers seats k (get_or workers k w.0) seated (slice_get-get_or workers k w.0 inside) in
            let f : HasWorked desk (get_or workers k w.0) (get_or after k w.0) = finished.each k w.0 inside in
            let first : f.first ≡ z.0 = (let same : Some f.first ≡ Some z.0 = sym f.held ∙ z.2.seat in cc) in
            let last : f.last ≡ s = (let same : Some f.last ≡ Some s = sym f.holds ∙ (ap (λ (v : Worker). v.seat) (index-get after k w.0 w.0 w.1) ∙ w.2) in cc) in
            let number : number_of f.last ≡ k = f.number ∙ (ap number_of first ∙ number-at k z.0 z.1) in
            let finished = subst (λ n. HasFinished (base_of desk) n (number_of f.last) (history f.last)) z.2.worker_loop.own.each_is f.finished in
            record {
              own = subst (IsSeatAt desk) last f.own;
              number = subst (λ t. number_of t ≡ k) last number;
              done = subst (λ t. HasFinished b each k (history t)) last
                  (subst (λ n. HasFinished b each n (history f.last)) number
                  (subst (λ c. HasFinished c each (number_of f.last) (history f.last)) opened.base finished));
            }

        pub all-back : All (IsSeatAt desk) back
        all-back k d below = (back-at k (get_or back k d) (slice_get-get_or back k d below)).own

        seat-of : (w : ℕ) → w < b.options.workers → (s : DeskSeat) × (slice_get back w ≡ Some s)
        seat-of w below =
            let many = as-many-back in
            let count = opened.many in
            let inside : w < length back = omega (arith, below, many, count) in
            find back w inside
          where
            find : (xs : List DeskSeat) (k : ℕ) → k < length xs → (s : DeskSeat) × (slice_get xs k ≡ Some s)
            find [] k h = absurd (omega (arith, h))
            find (x ∷ xs) zero h = (x, refl)
            find (x ∷ xs) (suc k) h = find xs k (omega (arith, h))

        pub each-back : (n : ℕ) → n < worker_count desk → (x : ℕ) × (x < length (map number_of back)) × (get_or (map number_of back) x n ≡ n)
        each-back n below =
            let count = opened.count in
            let s = seat-of n (omega (arith, below, count)) in
            let there = map-at number_of back n s.0 s.1 in
            (n, slice_get_within (map number_of back) n (number_of s.0) there, index-get (map number_of back) n (number_of s.0) n there ∙ (back-at n s.0 s.1).number)

        pub full-back : FinishedSearchesAreFull → (H : List Tried) → AreLegalButDraws b H → All (λ s. GoesOn (λ e. e.worker) (number_of s) (history s) H) back → IsFull b each H
        full-back law H legal seen =
            law b each H legal (λ w below.
            let s = seat-of w below in
            let t = back-at w s.0 s.1 in
            let goes = subst (λ u. GoesOn (λ e. e.worker) (number_of u) (history u) H) (index-get back w s.0 s.0 s.1) (seen w s.0 (slice_get_within back w s.0 s.1)) in
            (history s.0, subst (λ n. GoesOn (λ e. e.worker) n (history s.0) H) t.number goes, t.done))
