-- A worker's answers, and where the answer to each choice is.
use Rattle.std.proofs.Common.{◌≡◌, ℕ, zero, suc, ◌+◌, ◌*◌, ◌%◌, ◌/◌, ◌<◌, ◌≤◌, refl, sym, ap, ◌∙◌, subst, arith, inl, inr, List, [], ◌∷◌, ◌++◌, length, Option, Some}
use Rattle.std.specs.Prelude.{slice_get, slice_index_or, filter_map, vec_capacity, All}
use Rattle.std.specs.Int.{div_ceil}
use Rattle.std.specs.List.{range_with_len, cons_option}
use Rattle.std.proofs.lemmas.Bool.{cases_lt}
use Rattle.std.proofs.lemmas.Grind.{div_ceil_times}
use Rattle.std.proofs.lemmas.List.{length-append}
use Rattle.std.proofs.lemmas.Option.{slice_get_within, get_or_from_slice_get}
use Rattle.std.proofs.lemmas.List.Elements.{filter_map-append}
use Rattle.std.proofs.Math.Nat.{mod-add-div', mod-lt, mul-le-mul_right}
use Rattle.ih_tables.specs.declared.drafts.Draft.{Draft}
use Rattle.ih_plan.specs.Timetable.{Timetable}
use Rattle.ih_plan.proofs.ReadLemmas.{get-last}
use Rattle.ih_fill.proofs.ListLemmas.{range-more}
use Rattle.ih_advise.specs.declared.findings.Findings.{Findings}
use Rattle.ih_advise.specs.declared.choosing.Advice.{Advice}
use Rattle.ih_fill.specs.declared.choices.Choice.{Choice}
use Rattle.ih_advise.specs.Advising.{advice_on}
use Rattle.ih_advise.specs.Dealing.{HasAnswered, HaveAnswered, IsReady, found_of}

get-earlier : {A : Type 0} (xs : List A) (x : A) (k : ℕ) → k < length xs → slice_get (xs ++ x ∷ []) k ≡ slice_get xs k
get-earlier [] x k h = absurd (omega arith)
get-earlier (z ∷ zs) x zero h = refl
get-earlier (z ∷ zs) x (suc k) h = get-earlier zs x k (omega arith)

get-some : {A : Type 0} (xs : List A) (k : ℕ) → k < length xs → (x : A) × (slice_get xs k ≡ Some x)
get-some [] k h = absurd (omega arith)
get-some (x ∷ xs) zero h = (x, refl)
get-some (x ∷ xs) (suc k) h = get-some xs k (omega arith)

module _ (I : Draft) (hard : ℕ) (P : Timetable) (cs : List Choice) where
  -- worker w of n has come to a number, and has found what is advised on its choices before
  pub record HasCome (n w at : ℕ) (found : List (Option Advice)) : Type 0 where
    pub here : at ≡ w + length found * n
    pub each : (k : ℕ) → k < length found → (s : Choice) → slice_get cs (w + k * n) ≡ Some s → slice_get found k ≡ Some (advice_on I hard P s)

  pub come-more : (n w at : ℕ) (found more : List (Option Advice)) (s : Choice) (x : Option Advice) → HasCome n w at found
      → slice_get cs at ≡ Some s → x ≡ advice_on I hard P s → more ≡ found ++ x ∷ [] → HasCome n w (at + n) more
  come-more n w at found more s x come there is e =
      let m = length found in
      let here = come.here in
      let len : length (found ++ x ∷ []) ≡ m + 1 = length-append found (x ∷ []) in
      let times : (m + 1) * n ≡ m * n + n = grind arith in
      rw e (record {
        here = rw len (omega (arith, here, times));
        each = λ k h z asked. let below : k < m + 1 = rw len at h in elim (cases_lt k m) [
          | inl earlier ↦ get-earlier found x k earlier ∙ come.each k earlier z asked
          | inr later ↦
              let last : k ≡ m = omega arith in
              let own : slice_get cs at ≡ Some z = ap (slice_get cs) (here ∙ ap (λ j. w + j * n) (sym last)) ∙ asked in
              let same : s ≡ z = (let e : Some s ≡ Some z = sym there ∙ own in cc) in
              ap (slice_get (found ++ x ∷ [])) last ∙ (get-last found x ∙ ap Some (is ∙ ap (advice_on I hard P) same))
        ];
      })

  pub come-all : (n w at : ℕ) (found : List (Option Advice)) → HasCome n w at found → length cs ≤ at → HasAnswered I hard P cs n w found
  come-all n w at found come ended = record {
    each = λ k s asked.
        let here = come.here in
        let inside = slice_get_within cs (w + k * n) s asked in
        come.each k (elim (cases_lt k (length found)) [
          | inl below ↦ below
          | inr above ↦ let most = mul-le-mul_right n above in absurd (omega arith)
        ]) s asked;
  }

  -- choice s is answered by worker s % n, as number s / n of its answers
  found-at : (n : ℕ) (findings : List Findings) → 0 < n → HaveAnswered I hard P cs n findings → (s : ℕ) (z : Choice) → slice_get cs s ≡ Some z
      → found_of findings s ≡ advice_on I hard P z
  found-at n findings some all s z asked =
      let len = all.len in
      let split : s % n + s / n * n ≡ s = mod-add-div' s n in
      let below : s % n < n = mod-lt s some in
      let there = get-some findings (s % n) (omega (arith, below, len)) in
      let a : Findings = there.0 in
      let same : slice_index_or findings (s % n) a ≡ a = get_or_from_slice_get findings (s % n) a a there.1 in
      let own : slice_get a.found.items (s / n) ≡ Some (advice_on I hard P z) =
      subst (λ (b : Findings). slice_get b.found.items (s / n) ≡ Some (advice_on I hard P z)) same
      ((all.each (s % n) a below).each (s / n) z (ap (slice_get cs) split ∙ asked)) in
      rw (len, there.1, own) refl

  -- what is found on each number is what is advised on each choice
  by-place : (f : ℕ → Option Advice) (g : Choice → Option Advice) (xs : List Choice) (a : ℕ) → ((k : ℕ) (x : Choice) → slice_get xs k ≡ Some x → f (a + k) ≡ g x)
      → filter_map f (range_with_len a (length xs)) ≡ filter_map g xs
  by-place f g [] a h = refl
  by-place f g (x ∷ xs) a h =
      let start : a + 0 ≡ a = omega arith in
      ap (λ o. cons_option o (filter_map f (range_with_len (a + 1) (length xs)))) (sym (ap f start) ∙ h 0 x refl)
      ∙ ap (cons_option (g x)) (by-place f g xs (a + 1) (λ k y there. let next : a + 1 + k ≡ a + suc k = omega arith in ap f next ∙ h (suc k) y there))

  pub all-found : (n count : ℕ) (findings : List Findings) → 0 < n → HaveAnswered I hard P cs n findings → count ≡ length cs
      → filter_map (found_of findings) (range_with_len 0 count) ≡ filter_map (advice_on I hard P) cs
  all-found n count findings some all e =
      ap (λ c. filter_map (found_of findings) (range_with_len 0 c)) e
      ∙ by-place (found_of findings) (advice_on I hard P) cs 0 (λ s z asked. let first : 0 + s ≡ s = omega arith in ap (found_of findings) first ∙ found-at n findings some all s z asked)

-- all are ready where each has room for as many answers as the choices over the workers, rounded up
pub all-ready : (count n most : ℕ) (findings : List Findings) → 0 < n → most ≡ div_ceil count n → length findings ≡ n
    → All (λ f. (f.found.items ≡ []) × (vec_capacity f.found ≡ most)) findings → All (IsReady count (length findings)) findings
all-ready count n most findings some share len each = λ k d inside.
    let own = each k d inside in
    let enough : count ≤ most * n = subst (λ m. count ≤ m * n) (sym share) (div_ceil_times count n some).0 in
    record {
      none = own.0;
      room = subst (λ m. count ≤ m * length findings) (sym own.1) (subst (λ m. count ≤ most * m) (sym len) enough);
    }

-- with one number more
pub found-more : (f : ℕ → Option Advice) (n : ℕ) → filter_map f (range_with_len 0 (n + 1)) ≡ filter_map f (range_with_len 0 n) ++ cons_option (f n) []
found-more f n = ap (filter_map f) (range-more 0 n n (omega arith)) ∙ filter_map-append f (range_with_len 0 n) (n ∷ [])
