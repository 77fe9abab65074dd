-- The text of a number, one digit more at a time.
use Rattle.std.proofs.Common.{◌≡◌, ℕ, ◌+◌, ◌<◌, ◌≤◌, ◌^◌, ◌/◌, ◌%◌, sym, ap, ◌∙◌, List, [], ◌∷◌, ◌++◌, append_assoc, decimal}
use Rattle.std.proofs.lemmas.Fmt.{decimal_step}

-- behind the text of its tens comes the last digit
pub digit_behind : (a xs : List ℕ) (n : ℕ) → 10 ≤ n → n < 2 ^ 64 → xs ≡ a ++ decimal (n / 10) → xs ++ (48 + n % 10) ∷ [] ≡ a ++ decimal n
digit_behind a xs n low high tens =
    ap (λ (ds : List ℕ). ds ++ (48 + n % 10) ∷ []) tens
    ∙ append_assoc a (decimal (n / 10)) ((48 + n % 10) ∷ [])
    ∙ ap (λ (ds : List ℕ). a ++ ds) (sym (decimal_step n low high))
