-- Texts, piece by piece.
use Rattle.std.proofs.Common.{◌≡◌, ℕ, List, [], ◌∷◌, ◌++◌, append_assoc, refl, sym, ap, ◌∙◌, decimal, map, ℤ, pos, length, get_or, take, drop, ◌<◌, arith}
use Rattle.std.specs.Prelude.{codes}
use Rattle.std.specs.List.{join_with_byte, concat}
use Rattle.std.specs.Fmt.{signed_decimal}
use Rattle.std.proofs.lemmas.Fmt.{decimal_digit}
use Rattle.std.proofs.lemmas.List.{append-nil, map-append, take-append-drop}
use Rattle.ih_journal.specs.declared.settings.Options.{Options}
use Rattle.ih_journal.specs.declared.entries.Entry.{Entry}
use Rattle.ih_journal.specs.Texts.{heading, option_text, version_text, retries_field, named, dotted, fields, line_text, again_field, move_text, price_text, verdict_text, ended}
use Rattle.ih_journal.specs.Pieces.{marked}
use Rattle.ih_journal.proofs.Separators.{joined_marked, marked-append, signed-joined}

-- texts appended one after the other
abbrev pub appended : List ℕ → List (List ℕ) → List ℕ
appended old [] = old
appended old (x ∷ xs) = appended (old ++ x) xs

pub appended-is : (old : List ℕ) (xs : List (List ℕ)) → appended old xs ≡ old ++ concat xs
appended-is old [] = sym (append-nil old)
appended-is old (x ∷ xs) = appended-is (old ++ x) xs ∙ append_assoc old x (concat xs)

spaced-pieces : (title version a b c d e : List ℕ) (rest : List (List ℕ)) → ended (join_with_byte 32 (title ∷ version ∷ a ∷ b ∷ c ∷ d ∷ e ∷ rest))
    ≡ appended (title ++ 32 ∷ []) (version ∷ (32 ∷ a) ∷ (32 ∷ b) ∷ (32 ∷ c) ∷ (32 ∷ d) ∷ (32 ∷ e) ∷ marked 32 rest ∷ (10 ∷ []) ∷ [])
spaced-pieces title version a b c d e rest = rw (joined_marked 32 e rest, appended-is) (simp append_assoc)

pub heading-pieces : (o : Options) → ended (heading o)
    ≡ appended (codes "ihjournal ") (version_text o.retries ∷ (32 ∷ option_text (codes "seed") o.seed) ∷ (32 ∷ option_text (codes "workers") o.workers)
    ∷ (32 ∷ option_text (codes "moves") o.moves) ∷ (32 ∷ option_text (codes "heat") o.heat) ∷ (32 ∷ option_text (codes "hard") o.hard)
    ∷ marked 32 (retries_field o.retries) ∷ codes "\n" ∷ [])
unfolding heading
heading-pieces o =
    spaced-pieces (codes "ihjournal") (version_text o.retries) (option_text (codes "seed") o.seed) (option_text (codes "workers") o.workers)
    (option_text (codes "moves") o.moves) (option_text (codes "heat") o.heat) (option_text (codes "hard") o.hard) (retries_field o.retries)

pub line-pieces : (o : Options) (k : ℕ) (e : Entry) → ended (line_text o k e)
    ≡ appended (decimal k) ((32 ∷ decimal e.worker) ∷ (32 ∷ decimal e.number) ∷ marked 32 (again_field o.retries e.again) ∷ (32 ∷ decimal e.seen)
    ∷ codes " " ∷ move_text e.mv ∷ codes " " ∷ price_text e.price ∷ codes " " ∷ verdict_text e.verdict ∷ codes "\n" ∷ [])
unfolding fields
line-pieces o k e =
    let back : List (List ℕ) = decimal e.seen ∷ move_text e.mv ∷ price_text e.price ∷ verdict_text e.verdict ∷ [] in
    rw (joined_marked 32 (decimal e.number) (again_field o.retries e.again ++ back), marked-append 32 (again_field o.retries e.again) back, appended-is)
    (simp append_assoc)

pub named-pieces : (old name : List ℕ) (first : ℕ) (rest : List ℕ)
    → old ++ name ++ codes ":" ++ decimal first ++ marked 44 (map decimal rest) ≡ old ++ named name (first ∷ rest)
named-pieces old name first rest = rw (joined_marked 44 (decimal first) (map decimal rest)) (simp append_assoc)

pub dotted-pieces : (old name : List ℕ) (ns : List ℕ) → old ++ name ++ marked 46 (map decimal ns) ≡ old ++ dotted name ns
dotted-pieces old name ns = rw (joined_marked 46 name (map decimal ns)) (append_assoc old name (marked 46 (map decimal ns)))

pub price-pieces : (old : List ℕ) (v s : List ℤ) → 0 < length v
    → old ++ signed_decimal (get_or v 0 (pos 0)) ++ marked 44 (map signed_decimal (drop 1 v)) ++ marked 44 (map signed_decimal s)
    ≡ old ++ join_with_byte 44 (map signed_decimal (v ++ s))
price-pieces old [] s h = absurd (omega arith)
price-pieces old (x ∷ xs) s h = rw (signed-joined x xs s) (simp append_assoc)

pub numbers-halves : (old : List ℕ) (n : ℕ) (xs : List ℤ)
    → (old ++ marked 44 (map signed_decimal (take n xs))) ++ marked 44 (map signed_decimal (drop n xs)) ≡ old ++ marked 44 (map signed_decimal xs)
numbers-halves old n xs =
    append_assoc old (marked 44 (map signed_decimal (take n xs))) (marked 44 (map signed_decimal (drop n xs)))
    ∙ ap (λ (bs : List ℕ). old ++ bs)
    (sym (marked-append 44 (map signed_decimal (take n xs)) (map signed_decimal (drop n xs)))
    ∙ ap (marked 44) (sym (map-append signed_decimal (take n xs) (drop n xs)) ∙ ap (map signed_decimal) (take-append-drop n xs)))

pub four-zeros : (xs : List ℤ) → xs ≡ pos 0 ∷ pos 0 ∷ pos 0 ∷ pos 0 ∷ [] → marked 44 (map signed_decimal xs) ≡ codes ",0,0,0,0"
four-zeros xs h = rw (h, decimal_digit 0 (omega arith)) refl
