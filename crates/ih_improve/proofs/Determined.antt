-- Determined workers make determined rounds.
use Rattle.std.proofs.Common.{◌≡◌, ℕ, suc, refl, sym, ap, ◌∙◌, subst, arith, List, [], ◌∷◌, length}
use Rattle.std.specs.Prelude.{slice_get, Some}
use Rattle.ih_plan.specs.Timetable.{Timetable}
use Rattle.ih_improve.specs.Better.{best_of}
use Rattle.ih_improve.specs.ImproverState.{ImproverState, Leads, led_to, leg_of, terms_of}
use Rattle.ih_improve.specs.Laws.{IsDetermined, IsDeterminedByRounds, Lead, LeadOn}
use Rattle.ih_improve.specs.Legs.{LegState}
use Rattle.ih_improve.specs.declared.spans.Span.{Span}

-- lists of one length are equal that are equal at each place
same-lists : {A : Type 0} (xs ys : List A) → length xs ≡ length ys
    → ((k : ℕ) (x y : A) → slice_get xs k ≡ Some x → slice_get ys k ≡ Some y → x ≡ y) → xs ≡ ys
same-lists [] [] len each = refl
same-lists [] (y ∷ ys) len each = absurd (omega (arith, len))
same-lists (x ∷ xs) [] len each = absurd (omega (arith, len))
same-lists (x ∷ xs) (y ∷ ys) len each =
    let head : x ≡ y = each 0 x y refl refl in
    let tail : xs ≡ ys = same-lists xs ys (omega (arith, len)) (λ k a b ha hb. each (suc k) a b ha hb) in
    ap (λ z. z ∷ xs) head ∙ ap (λ zs. y ∷ zs) tail

module _ (leaves : LegState → ℕ → Timetable → Type 0) (determined : IsDetermined leaves) where
  pub one-round : (v : ImproverState) (s : Span) (P Q : Timetable) → Leads leaves v s P → Leads leaves v s Q → P ≡ Q
  one-round v s P Q first second =
      let same : first.left ≡ second.left =
      same-lists first.left second.left (first.each_worker ∙ sym second.each_worker)
      (λ k x y hx hy. determined (leg_of v s) k x y (first.leaves k x hx) (second.leaves k y hy)) in
      first.best ∙ (ap (best_of (terms_of v) v.kept) same ∙ sym second.best)

  pub all-rounds : (v : ImproverState) (ss : List Span) (Ps Qs : List Timetable) → Lead leaves v ss Ps → Lead leaves v ss Qs → Ps ≡ Qs
  all-rounds v [] [] [] first second = refl
  all-rounds v [] [] (Q ∷ Qs) first second = absurd second
  all-rounds v [] (P ∷ Ps) Qs first second = absurd first
  all-rounds v (s ∷ ss) [] Qs first second = absurd first
  all-rounds v (s ∷ ss) (P ∷ Ps) [] first second = absurd second
  all-rounds v (s ∷ ss) (P ∷ Ps) (Q ∷ Qs) first second =
      let head : P ≡ Q = one-round v s P Q first.0 second.0 in
      let tail : Ps ≡ Qs = all-rounds (led_to v s P) ss Ps Qs first.1 (subst (λ R. Lead leaves (led_to v s R) ss Qs) (sym head) second.1) in
      ap (λ R. R ∷ Ps) head ∙ ap (λ Rs. Q ∷ Rs) tail

-- the same where workers go on from where their rounds so far left them
module _ (leaves : List LegState → ℕ → Timetable → Type 0) (determined : IsDeterminedByRounds leaves) where
  pub all-rounds-on : (past : List LegState) (v : ImproverState) (ss : List Span) (Ps Qs : List Timetable) → LeadOn leaves past v ss Ps → LeadOn leaves past v ss Qs
      → Ps ≡ Qs
  all-rounds-on past v [] [] [] first second = refl
  all-rounds-on past v [] [] (Q ∷ Qs) first second = absurd second
  all-rounds-on past v [] (P ∷ Ps) Qs first second = absurd first
  all-rounds-on past v (s ∷ ss) [] Qs first second = absurd first
  all-rounds-on past v (s ∷ ss) (P ∷ Ps) [] first second = absurd second
  all-rounds-on past v (s ∷ ss) (P ∷ Ps) (Q ∷ Qs) first second =
      let head : P ≡ Q = one-round (λ l. leaves (l ∷ past)) (λ l. determined (l ∷ past)) v s P Q first.0 second.0 in
      let tail : Ps ≡ Qs =
      all-rounds-on (leg_of v s ∷ past) (led_to v s P) ss Ps Qs first.1
      (subst (λ R. LeadOn leaves (leg_of v s ∷ past) (led_to v s R) ss Qs) (sym head) second.1) in
      ap (λ R. R ∷ Ps) head ∙ ap (λ Rs. Q ∷ Rs) tail
