-- The minutes that are kept for each list of patients, where a patient comes or goes.
use Rattle.std.proofs.Common.{◌≡◌, ℕ, ◌+◌, ◌-◌, ◌*◌, ◌≤◌, ◌<◌, arith, sym, ap, ◌∙◌, List, [], ◌∷◌, ◌++◌, inl, inr, Option, Some, None, length, replicate}
use Rattle.std.specs.Prelude.{map, slice_set, slice_index, slice_index_or}
use Rattle.std.proofs.Math.ListN.{get_or-map}
use Rattle.std.proofs.lemmas.List.{length-set, length-map, length-replicate, get_or_default, get_or-set_same, get_or-set_other}
use Rattle.std.proofs.lemmas.Bool.{cases_eq}
use Rattle.ih_tables.specs.declared.drafts.Draft.{Draft}
use Rattle.ih_tables.specs.Sizes.{patient_count}
use Rattle.ih_tables.specs.Valid.{IsValid}
use Rattle.ih_links.specs.Lists.{LinksState, list_of, without}
use Rattle.ih_plan.specs.Costs.{duration_of, minutes}
use Rattle.ih_plan.proofs.ReadLemmas.{index-copies}
use Rattle.ih_theatres.specs.Days.{AreDays, AreMinutes}
use Rattle.ih_theatres.proofs.Minutes.{list-most}
use Rattle.ih_theatres.proofs.DayLemmas.{nodes-append, days-free, days-there, days-away}
use Rattle.ih_theatres.proofs.OtherPatients.{minutes-there, minutes-away, more-minutes}

-- nobody is in any list
pub minutes-none : (I : Draft) (n : ℕ) (v : LinksState) (kept : List ℕ) → v.lists ≡ replicate n [] → kept ≡ replicate n 0 → AreMinutes I v kept
minutes-none I n v kept lists zeros = record {
  len = ap length zeros ∙ (length-replicate n 0 ∙ sym (ap length lists ∙ length-replicate n []));
  sums = λ h. ap (λ ms. slice_index ms h) zeros ∙ (index-copies n h 0 ∙ sym (ap (λ ls. minutes I (slice_index_or ls h [])) lists ∙ ap (minutes I) (index-copies n h [])));
}

module _ {I : Draft} {n : ℕ} {day : ℕ → Option ℕ} {v : LinksState} {kept : List ℕ} (days : AreDays I n day v) (a : AreMinutes I v kept) (h : ℕ) (below : h < n * I.days) where
  pub kept-below : h < length kept
  kept-below = let e = a.len ∙ days.heads in omega arith

  -- what is read of a list
  module _ (x : ℕ) (read : x ≡ slice_index_or kept h x) where
    pub kept-is : x ≡ minutes I (list_of v h)
    kept-is = read ∙ (get_or_default kept h x 0 kept-below ∙ a.sums h)

    -- no list has more minutes than all patients may have
    pub kept-most : IsValid I → x ≤ 204800000
    kept-most valid =
        let most = list-most I (list_of v h) valid (days.known h) in
        let sum = kept-is in
        omega arith

    module _ (p d : ℕ) (mine : d ≡ duration_of I p) where
      -- with a patient more, who is in no list, it is no more than all patients may have
      pub kept-room : IsValid I → p < patient_count I → day p ≡ None → x + d ≤ 204800000
      kept-room valid inside none =
          let most = list-most I (list_of v h ++ p ∷ []) valid (nodes-append p (days.known h) inside (days-free days p none h)) in
          let more = more-minutes I (list_of v h) p in
          let sum = kept-is in
          omega arith

      -- who is in the list has no more minutes than it
      pub kept-enough : day p ≡ Some h → d ≤ x
      kept-enough some =
          let all = minutes-there I p (list_of v h) (days.known h).once (days-there days p h some) in
          let sum = kept-is in
          omega arith

      -- a patient enters the list
      pub minutes-entered : {w : LinksState} {later : List ℕ} → w.lists ≡ slice_set v.lists h (list_of v h ++ p ∷ []) → later ≡ slice_set kept h (x + d) → AreMinutes I w later
      minutes-entered {w} {later} lists added = record {
        len = ap length added ∙ (length-set kept h (x + d) ∙ (a.len ∙ sym (ap length lists ∙ length-set v.lists h (list_of v h ++ p ∷ []))));
        sums = λ g. ap (λ ms. slice_index ms g) added ∙ (elim (cases_eq g h) [
          | inl same ↦ rw same (here ∙ sym (ap (minutes I) (get_or-set_same v.lists h (list_of v h ++ p ∷ []) [] (let e = days.heads in omega arith))))
          | inr other ↦ get_or-set_other kept h g (x + d) 0 other ∙ (a.sums g ∙ sym (ap (minutes I) (get_or-set_other v.lists h g (list_of v h ++ p ∷ []) [] other)))
        ] ∙ sym (ap (λ ls. minutes I (slice_index_or ls g [])) lists));
      }
        where
          here : slice_index (slice_set kept h (x + d)) h ≡ minutes I (list_of v h ++ p ∷ [])
          here =
              let more = more-minutes I (list_of v h) p in
              let sum = kept-is in
              get_or-set_same kept h (x + d) 0 kept-below ∙ omega arith

      -- a patient leaves the list
      pub minutes-left : {w : LinksState} {later : List ℕ} → day p ≡ Some h → w.lists ≡ map (without p) v.lists → later ≡ slice_set kept h (x - d) → AreMinutes I w later
      minutes-left {w} {later} some lists taken = record {
        len = ap length taken ∙ (length-set kept h (x - d) ∙ (a.len ∙ sym (ap length lists ∙ length-map v.lists (without p))));
        sums = λ g. ap (λ ms. slice_index ms g) taken ∙ (elim (cases_eq g h) [
          | inl same ↦ rw same here
          | inr other ↦ get_or-set_other kept h g (x - d) 0 other ∙ (a.sums g ∙ minutes-away I p (list_of v g) (days-away days p h g some other))
        ] ∙ sym (ap (λ ls. minutes I (slice_index_or ls g [])) lists ∙ ap (minutes I) (get_or-map (without p) v.lists g [])));
      }
        where
          here : slice_index (slice_set kept h (x - d)) h ≡ minutes I (without p (list_of v h))
          here =
              let less = minutes-there I p (list_of v h) (days.known h).once (days-there days p h some) in
              let sum = kept-is in
              get_or-set_same kept h (x - d) 0 kept-below ∙ omega arith
