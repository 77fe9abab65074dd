-- The lines of advice.
use Rattle.std.proofs.Common.{◌≡◌, ◌∙◌, ℕ, refl, sym, ap, arith, append_assoc, codes, List, [], ◌∷◌, ◌++◌, Some, None, get_or}
use Rattle.std.specs.Prelude.{flat_map, length}
use Rattle.std.specs.Fmt.{signed_decimal}
use Rattle.ih_plan.specs.declared.moves.Write.{Write}
use Rattle.ih_plan.specs.declared.moves.Write.TheVariants.{SetStay, SetCare}
use Rattle.ih_journal.specs.Texts.{price_text}
use Rattle.ih_advise.specs.declared.choosing.Advice.{Advice}
use Rattle.ih_advise.specs.Texts.{advice_line, advice_text, last_line, write_text}

-- a write's text begins with an s
first-byte : (w : Write) (rest : List ℕ) → get_or (write_text w ++ rest) 0 0 ≡ 115
first-byte (SetStay p (Some at)) rest = refl
first-byte (SetStay p None) rest = refl
first-byte (SetCare r k (Some n)) rest = refl
first-byte (SetCare r k None) rest = refl

line-first : (w : Write) (behind rest last : List ℕ) → get_or (((write_text w ++ behind) ++ rest) ++ last) 0 0 ≡ 115
line-first w behind rest last =
    ap (λ xs. get_or xs 0 0) (append_assoc (write_text w ++ behind) rest last ∙ append_assoc (write_text w) behind (rest ++ last)) ∙ first-byte w (behind ++ (rest ++ last))

pub said-only : (list : List Advice) → advice_text list ≡ codes "locally best\n" → list ≡ []
unfolding advice_text
said-only [] h = refl
said-only (a ∷ list) h =
    let first = line-first a.write (codes " " ++ (signed_decimal a.score ++ (codes " " ++ (price_text a.price ++ codes "\n")))) (flat_map advice_line list) (last_line (length (a ∷ list))) in
    let clash : 115 ≡ 108 = sym first ∙ ap (λ xs. get_or xs 0 0) h in
    absurd (omega (arith, clash))

pub said-always : (list : List Advice) → list ≡ [] → advice_text list ≡ codes "locally best\n"
unfolding advice_text
said-always list none = rw none refl
