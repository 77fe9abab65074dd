-- The theatre that adds least is the same for every room.
use Rattle.std.proofs.Common.{◌≡◌, ℕ, ◌+◌, ◌<◌, refl, sym, ◌∙◌, ap, subst, arith, List, [], ◌∷◌, ◌++◌, Some}
use Rattle.std.specs.Prelude.{ℤ, ◌<ℤ◌, ◌≤ℤ◌, flat_map}
use Rattle.std.proofs.lemmas.List.FromFn.{length-map-range_with_len, map-range_with_len_more}
use Rattle.ih_tables.specs.declared.drafts.Draft.{Draft}
use Rattle.ih_tables.specs.declared.drafts.Patient.{Patient}
use Rattle.ih_tables.specs.declared.ids.PatientNo.{PatientNo}
use Rattle.ih_tables.specs.Sizes.{patient_count, theatre_count}
use Rattle.ih_plan.specs.declared.moves.Write.{Write}
use Rattle.ih_plan.specs.declared.moves.Write.TheVariants.{SetStay}
use Rattle.ih_plan.specs.Timetable.{IsPlanOf}
use Rattle.ih_plan.specs.BillOf.{bill_of, change_of_bill}
use Rattle.ih_fill.specs.declared.candidates.Candidate.{Candidate}
use Rattle.ih_fill.specs.Candidates.{cheapest, valued, stays_in, stays_on, rooms_for, placed}
use Rattle.ih_fill.specs.FirstLeast.{AnyPlace, IsBefore, IsFirstLeast}
use Rattle.ih_fill.specs.ScorerState.{ScorerState, stay_value, view_of}
use Rattle.ih_fill.specs.Theatres.{theatre_value, IsFirstTheatre}
use Rattle.ih_fill.proofs.CandidateLemmas.{cheaper, cheaper-more}
use Rattle.ih_fill.proofs.CrossedStays.{stayed, bills-balanced}
use Rattle.ih_fill.proofs.FirstLeast.{first-longer, last-first}
use Rattle.ih_fill.proofs.ListLemmas.{get-listed, listed-is}
use Rattle.ih_fill.proofs.ScoreLemmas.{AreEven, before-even, changes-balanced, viewed-balanced, scores-even}

-- ---- one theatre after the other

module _ (F : ScorerState) (p : PatientNo) (d r : ℕ) where
  abbrev in-theatre : ℕ → Write
  in-theatre t = SetStay p (Some (placed d r t))

  pub theatre-inside : (n t : ℕ) → IsFirstTheatre F p d r n t → t < n
  theatre-inside n t first = (listed-is in-theatre n t (in-theatre t) first.there).0

  pub theatre-stays : (n t : ℕ) → theatre_value F p d r t ≤ℤ theatre_value F p d r n → IsFirstTheatre F p d r n t → IsFirstTheatre F p d r (n + 1) t
  theatre-stays n t most first =
      subst (λ ws. IsFirstLeast (stay_value F) ws AnyPlace t (in-theatre t)) (sym (map-range_with_len_more in-theatre 0 n n (omega arith)))
      (first-longer (stay_value F) (stays_in p d r n) (in-theatre n) (in-theatre t) t most first)

  pub theatre-falls : (n t : ℕ) → theatre_value F p d r n <ℤ theatre_value F p d r t → IsFirstTheatre F p d r n t → IsFirstTheatre F p d r (n + 1) n
  theatre-falls n t less first =
      subst (λ ws. IsFirstLeast (stay_value F) ws AnyPlace n (in-theatre n)) (sym (map-range_with_len_more in-theatre 0 n n (omega arith)))
      (subst (λ k. IsFirstLeast (stay_value F) (stays_in p d r n ++ in-theatre n ∷ []) AnyPlace k (in-theatre n)) (length-map-range_with_len in-theatre 0 n)
      (last-first (stay_value F) (stays_in p d r n) (in-theatre n) (in-theatre t) t less first))

-- ---- one room and the others

module _ (F : ScorerState) (p : PatientNo) (plan : IsPlanOf F.instance F.plan) (inside : p.0 < patient_count F.instance) where
  values-even : (d r s t u : ℕ) → AreEven (theatre_value F p d r t) (theatre_value F p d s u) (theatre_value F p d r u) (theatre_value F p d s t)
  unfolding stay_value
  values-even d r s t u =
      let bill = λ (r t : ℕ). bill_of F.instance (stayed F.plan p (placed d r t)) in
      let change = λ (r t : ℕ). change_of_bill F.instance F.plan (stayed F.plan p (placed d r t)) in
      let now = bill_of F.instance F.plan in
      let view = view_of F.counts_uncovered in
      scores-even F.hard F.instance.weights (view (change r t)) (view (change s u)) (view (change r u)) (view (change s t))
      (viewed-balanced F.counts_uncovered (change r t) (change s u) (change r u) (change s t)
      (changes-balanced (bill r t) (bill s u) (bill r u) (bill s t) now (bills-balanced F.instance F.plan p plan inside d r s t u)))

  -- The first least theatre in one room is so in each room.
  pub every-room : (d s n t : ℕ) → IsFirstTheatre F p d s n t → (r : ℕ) → IsFirstTheatre F p d r n t
  every-room d s n t first r = record {
    there = get-listed (λ u. SetStay p (Some (placed d r u))) 0 n t t (theatre-inside F p d s n t first) (omega arith);
    among = tt;
    first = λ u x any there.
        let own = listed-is (λ u. SetStay p (Some (placed d r u))) n u x there in
        let other = get-listed (λ u. SetStay p (Some (placed d s u))) 0 n u u own.0 (omega arith) in
        subst (λ y. IsBefore (theatre_value F p d r t) t (stay_value F y) u) own.1
        (before-even (theatre_value F p d s t) (theatre_value F p d s u) (theatre_value F p d r t) (theatre_value F p d r u) t u (values-even d s r t u)
        (first.first u (SetStay p (Some (placed d s u))) tt other));
  }

-- ---- candidates

pub cheaper-one : (v : Write → ℤ) (w x : Write) (first second result : Candidate) → first ≡ valued v w → second ≡ valued v x → result ≡ cheaper first second
    → result ≡ valued v (cheapest v first.write (x ∷ []))
cheaper-one v w x first second result a b e =
    e ∙ (ap (λ c. cheaper c second) a ∙ (ap (cheaper (valued v w)) b ∙ (cheaper-more v w x [] ∙ ap (λ (c : Candidate). valued v (cheapest v c.write (x ∷ []))) (sym a))))

-- Without theatres there are no stays.
pub no-stays : (I : Draft) (p : PatientNo) (a : Patient) (d n : ℕ) → theatre_count I ≡ 0 → stays_on I p a d n ≡ []
no-stays I p a d n e = ap (λ k. flat_map (λ r. stays_in p d r k) (rooms_for a n)) e ∙ rooms-empty (rooms_for a n)
  where
    rooms-empty : (rs : List ℕ) → flat_map (λ r. stays_in p d r 0) rs ≡ []
    rooms-empty [] = refl
    rooms-empty (r ∷ rs) = rooms-empty rs
