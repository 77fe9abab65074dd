-- The texts of cells by their names and numbers.
use Rattle.std.proofs.Common.{◌≡◌, ℕ, ◌≤◌, refl, sym, ◌∙◌, ap, arith, true, List, [], ◌∷◌, map, length, decimal, None, lit≤}
use Rattle.std.specs.Prelude.{codes, IfSome, IfNone, slice_index, ◌==◌}
use Rattle.std.specs.List.{join_with_byte}
use Rattle.std.proofs.lemmas.Bool.{eqb-true}
use Rattle.std.proofs.lemmas.List.Elements.{All-cons}
use Rattle.ih_tables.specs.declared.cells.Cell.{Cell}
use Rattle.ih_tables.specs.declared.cells.Cell.TheVariants.{Stay, RoomDay, TheatreDay, SurgeonDay, RoomShift, NurseShift, Care}
use Rattle.ih_journal.specs.Texts.{cell_text, dotted}
use Rattle.ih_journal.specs.Grammar.{parted}
use Rattle.ih_journal.specs.Names.{cell_name, cell_numbers, cell_named, by_name, cells_of_one, cells_of_two, AreShort}
use Rattle.ih_journal.specs.Pieces.{IsCut}
use Rattle.ih_journal.proofs.Lacking.{Lacks, lacks, lacks_known, parted_joined, parted_text, lacks_joined, numbers_lack, IsMark, plain, plain_lacks, low_mark, dot, colon}
use Rattle.ih_journal.proofs.Spelling.{IsNamed, IsSpelled, spelled_by, some_where, either_way, listed, along, one, two, named_made, none_where, same_named}

dotted_parted : (name ns : List ℕ) → lacks 46 name ≡ true → AreShort ns → parted 46 (dotted name ns) ≡ name ∷ map decimal ns
dotted_parted name ns known short =
    parted_joined 46 name (map decimal ns) (All-cons (Lacks 46) name (map decimal ns) (lacks_known 46 name known) (numbers_lack 46 ns dot short))

dotted_cut : (name : List ℕ) (n : ℕ) (ns bs : List ℕ) → lacks 46 name ≡ true → AreShort (n ∷ ns) → bs ≡ dotted name (n ∷ ns) → IsCut 46 46 bs name (n ∷ ns)
dotted_cut name n ns bs known short is =
    let read = parted_joined 46 (decimal n) (map decimal ns) (numbers_lack 46 (n ∷ ns) dot short) in
    record {
      rest = join_with_byte 46 (map decimal (n ∷ ns));
      cut = ap (parted 46) is ∙ dotted_parted name (n ∷ ns) known short ∙ ap (λ (r : List (List ℕ)). name ∷ r) (sym read);
      read = read;
      short = short;
    }

-- the bytes are the text of a cell
abbrev pub IsCellText : Cell → List ℕ → Type 0
IsCellText c bs = IsNamed cell_named 46 46 2 (cell_name c) (cell_numbers c) bs c

pub cell_dotted : (c : Cell) (bs : List ℕ) → AreShort (cell_numbers c) → bs ≡ cell_text c → IsCellText c bs
unfolding cell_text cell_named
cell_dotted (Stay p) bs short is = record { cut = dotted_cut (codes "stay") p.0 [] bs refl short is; few = lit≤ tt; made = refl }
cell_dotted (RoomDay r d) bs short is = record { cut = dotted_cut (codes "roomday") r.0 (d.0 ∷ []) bs refl short is; few = lit≤ tt; made = refl }
cell_dotted (TheatreDay t d) bs short is = record { cut = dotted_cut (codes "theatreday") t.0 (d.0 ∷ []) bs refl short is; few = lit≤ tt; made = refl }
cell_dotted (SurgeonDay s d) bs short is = record { cut = dotted_cut (codes "surgeonday") s.0 (d.0 ∷ []) bs refl short is; few = lit≤ tt; made = refl }
cell_dotted (RoomShift r k) bs short is = record { cut = dotted_cut (codes "roomshift") r.0 (k.0 ∷ []) bs refl short is; few = lit≤ tt; made = refl }
cell_dotted (NurseShift n k) bs short is = record { cut = dotted_cut (codes "nurseshift") n.0 (k.0 ∷ []) bs refl short is; few = lit≤ tt; made = refl }
cell_dotted (Care x) bs short is = record { cut = dotted_cut (codes "care") x.0 [] bs refl short is; few = lit≤ tt; made = refl }

-- the text and the numbers are those of the cell
abbrev Spells : List ℕ → List ℕ → Cell → Type 0
Spells = IsSpelled dotted cell_text cell_numbers

of_one : (name : List ℕ) (a : ℕ) → spelled_by Spells name (a ∷ []) (by_name name (cells_of_one a))
unfolding cell_text
of_one name a = listed dotted cell_text cell_numbers name (a ∷ []) (cells_of_one a) (refl, refl, (refl, refl, tt))

of_two : (name : List ℕ) (a b : ℕ) → spelled_by Spells name (a ∷ b ∷ []) (by_name name (cells_of_two a b))
unfolding cell_text
of_two name a b =
    listed dotted cell_text cell_numbers name (a ∷ b ∷ []) (cells_of_two a b) (refl, refl, (refl, refl, (refl, refl, (refl, refl, (refl, refl, tt)))))

-- what a name and numbers give has their text
pub cell_spelled : (name ns : List ℕ) → spelled_by Spells name ns (cell_named name ns)
unfolding cell_named
cell_spelled name ns =
    either_way Spells (length ns == 1) name ns _ _ (λ h. along Spells name _ ns _ (one ns (eqb-true (length ns) 1 h)) (of_one name (slice_index ns 0)))
    (either_way Spells (length ns == 2) name ns _ None (λ h. along Spells name _ ns _ (two ns (eqb-true (length ns) 2 h)) (of_two name (slice_index ns 0) (slice_index ns 1))) tt)

cut_text : (bs name ns : List ℕ) → IsCut 46 46 bs name ns → bs ≡ dotted name ns
cut_text bs name ns cut = parted_text 46 bs (name ∷ map decimal ns) (cut.cut ∙ ap (λ (r : List (List ℕ)). name ∷ r) cut.read)

-- what is read has the bytes as its text
pub read_some : (bs name ns : List ℕ) → IsCut 46 46 bs name ns → IfSome (cell_named name ns) (λ c. (bs ≡ cell_text c) × AreShort (cell_numbers c))
read_some bs name ns cut =
    some_where dotted cell_text cell_numbers (cell_named name ns) bs name ns (cut_text bs name ns cut) cut.short (cell_spelled name ns)

-- nothing is read only of bytes that are the text of no cell
pub read_none : (bs name ns : List ℕ) → IsCut 46 46 bs name ns → IfNone (cell_named name ns) ((c : Cell) → AreShort (cell_numbers c) → bs ≡ cell_text c → ⊥)
read_none bs name ns cut =
    none_where (cell_named name ns) (λ c. AreShort (cell_numbers c)) (λ c. bs ≡ cell_text c)
    (λ c short is. named_made cell_named 46 46 2 bs (cell_name c) (cell_numbers c) name ns c (cell_dotted c bs short is) cut)

-- two cells with one text are one cell
pub cells_differ : (a b : Cell) → AreShort (cell_numbers a) → AreShort (cell_numbers b) → cell_text a ≡ cell_text b → a ≡ b
cells_differ a b short_a short_b h =
    same_named cell_named 46 46 2 (cell_text a) (cell_name a) (cell_numbers a) (cell_name b) (cell_numbers b) a b
    (cell_dotted a (cell_text a) short_a refl) (cell_dotted b (cell_text a) short_b h)

cell_text-is : (c : Cell) → cell_text c ≡ dotted (cell_name c) (cell_numbers c)
unfolding cell_text
cell_text-is (Stay p) = refl
cell_text-is (RoomDay r d) = refl
cell_text-is (TheatreDay t d) = refl
cell_text-is (SurgeonDay s d) = refl
cell_text-is (RoomShift r k) = refl
cell_text-is (NurseShift n k) = refl
cell_text-is (Care x) = refl

-- a mark that stands in no cell's name and is no dot stands in no cell's text
cell_lacks : (m : ℕ) (c : Cell) → IsMark m → (46 ≡ m → ⊥) → Lacks m (cell_name c) → AreShort (cell_numbers c) → Lacks m (cell_text c)
cell_lacks m c mark ne known short =
    rw cell_text-is
    (lacks_joined m 46 (cell_name c ∷ map decimal (cell_numbers c)) ne
    (All-cons (Lacks m) (cell_name c) (map decimal (cell_numbers c)) known (numbers_lack m (cell_numbers c) mark short)))

-- no cell's name has a colon, and each is plain
cell_names : (c : Cell) → (lacks 58 (cell_name c) ≡ true) × (plain (cell_name c) ≡ true)
cell_names (Stay p) = (refl, refl)
cell_names (RoomDay r d) = (refl, refl)
cell_names (TheatreDay t d) = (refl, refl)
cell_names (SurgeonDay s d) = (refl, refl)
cell_names (RoomShift r k) = (refl, refl)
cell_names (NurseShift n k) = (refl, refl)
cell_names (Care x) = (refl, refl)

pub cell_lacks_colon : (c : Cell) → AreShort (cell_numbers c) → Lacks 58 (cell_text c)
cell_lacks_colon c short = cell_lacks 58 c colon (λ e. omega (arith, e)) (lacks_known 58 (cell_name c) (cell_names c).0) short

-- no cell's text has a space or a line feed
pub cell_lacks_low : (m : ℕ) (c : Cell) → m ≤ 32 → AreShort (cell_numbers c) → Lacks m (cell_text c)
cell_lacks_low m c low short =
    cell_lacks m c (low_mark m low) (λ e. omega (arith, e, low)) (plain_lacks m (cell_name c) low (cell_names c).1) short
