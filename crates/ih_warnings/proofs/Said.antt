-- Each slip is said, and nothing else.
use Rattle.std.proofs.Common.{◌≡◌, ℕ, zero, suc, ◌<◌, refl, sym, ap, ◌∙◌, subst, append_assoc, arith, true, false, List, [], ◌∷◌, ◌++◌, inl, inr, Some, None}
use Rattle.std.specs.Prelude.{flat_map, slice_get}
use Rattle.std.proofs.lemmas.Bool.{cases_eq}
use Rattle.std.proofs.lemmas.List.{append-nil}
use Rattle.ih_tables.specs.declared.drafts.Draft.{Draft}
use Rattle.ih_validate.specs.Report.{lines_below}
use Rattle.ih_warnings.specs.declared.slips.Slip.{Slip}
use Rattle.ih_warnings.specs.declared.slips.Slip.TheVariants.{RespeltAgeGroup, RespeltGender, NoWeight, IdleSurgeon, ShutTheatre, UselessRoom, IdleNurse, RoomlessPatient, EarlyPatient}
use Rattle.ih_warnings.specs.Laws.{StandsIn}
use Rattle.ih_warnings.specs.Slips.{count_of, has_slip, name_of}
use Rattle.ih_warnings.specs.Warnings.{line, lines, slips, warning, warnings}

-- ---- pieces of a text

-- what stands in a part stands in the whole
in-first : (piece text rest : List ℕ) → StandsIn piece text → StandsIn piece (text ++ rest)
in-first piece text rest h =
    (h.0, h.1 ++ rest, ap (λ t. t ++ rest) h.2 ∙ (append_assoc h.0 (piece ++ h.1) rest ∙ ap (λ t. h.0 ++ t) (append_assoc piece h.1 rest)))

in-rest : (piece first text : List ℕ) → StandsIn piece text → StandsIn piece (first ++ text)
in-rest piece first text h = (first ++ h.0, h.1, ap (λ t. first ++ t) h.2 ∙ sym (append_assoc first h.0 (piece ++ h.1)))

-- one of n lines
line-stands : (f : ℕ → List ℕ) (n i : ℕ) → i < n → StandsIn (f i) (lines_below n f)
unfolding lines_below
line-stands f zero i h = absurd (omega arith)
line-stands f (suc n) i h = elim (cases_eq i n) [
  | inl here ↦ (lines_below n f, [], ap (λ t. lines_below n f ++ t) (ap f (sym here) ∙ sym (append-nil (f i))))
  | inr before ↦ in-first (f i) (lines_below n f) (f n) (line-stands f n i (omega arith))
]

-- one of several parts
part-stands : (f : Slip → List ℕ) (piece : List ℕ) (xs : List Slip) (k : ℕ) (x : Slip) → slice_get xs k ≡ Some x → StandsIn piece (f x) → StandsIn piece (flat_map f xs)
part-stands f piece [] k x e h = absurd (let no : None ≡ Some x = e in cc)
part-stands f piece (y ∷ ys) zero x e h =
    let same : x ≡ y = cc in
    in-first piece (f y) (flat_map f ys) (subst (λ (z : Slip). StandsIn piece (f z)) same h)
part-stands f piece (y ∷ ys) (suc k) x e h = in-rest piece (f y) (flat_map f ys) (part-stands f piece ys k x e h)

-- ---- each slip is said

listed : (slip : Slip) → (k : ℕ) × (slice_get slips k ≡ Some slip)
listed RespeltAgeGroup = (0, refl)
listed RespeltGender = (1, refl)
listed NoWeight = (2, refl)
listed IdleSurgeon = (3, refl)
listed ShutTheatre = (4, refl)
listed UselessRoom = (5, refl)
listed IdleNurse = (6, refl)
listed RoomlessPatient = (7, refl)
listed EarlyPatient = (8, refl)

pub is-said : (I : Draft) (slip : Slip) (i : ℕ) → i < count_of I slip → has_slip I slip i ≡ true → StandsIn (warning slip (name_of I slip i)) (warnings I)
unfolding warnings lines line
is-said I slip i within has =
    let known : line I slip i ≡ warning slip (name_of I slip i) = rw has refl in
    let found = listed slip in
    let stands = line-stands (line I slip) (count_of I slip) i within in
    subst (λ (t : List ℕ). StandsIn t (flat_map (lines I) slips)) known (part-stands (lines I) (line I slip i) slips found.0 slip found.1 stands)

-- ---- and nothing else

no-lines : (f : ℕ → List ℕ) (n : ℕ) → ((i : ℕ) → i < n → f i ≡ []) → lines_below n f ≡ []
unfolding lines_below
no-lines f zero none = refl
no-lines f (suc n) none = rw (no-lines f n (λ i h. none i (omega arith)), none n (omega arith)) refl

no-parts : (f : Slip → List ℕ) (xs : List Slip) → ((x : Slip) → f x ≡ []) → flat_map f xs ≡ []
no-parts f [] none = refl
no-parts f (x ∷ xs) none = rw (none x, no-parts f xs none) refl

pub is-silent : (I : Draft) → ((slip : Slip) (i : ℕ) → i < count_of I slip → has_slip I slip i ≡ false) → warnings I ≡ []
unfolding warnings lines line
is-silent I none = no-parts (lines I) slips (λ slip. no-lines (line I slip) (count_of I slip) (λ i within. rw (none slip i within) refl))
