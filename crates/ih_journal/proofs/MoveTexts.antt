-- The texts of moves by their names and numbers.
use Rattle.std.proofs.Common.{◌≡◌, ◌⊎◌, inl, inr, ℕ, ◌≤◌, refl, sym, ◌∙◌, ap, arith, true, false, List, [], ◌∷◌, ◌++◌, map, length, decimal, Some, None, lit≤}
use Rattle.std.specs.Prelude.{codes, IfNone, IfSome, slice_index, ◌==◌}
use Rattle.std.proofs.lemmas.Bool.{eqb-true, ne_eqb}
use Rattle.std.proofs.lemmas.List.Elements.{All-nil, All-cons, All-append}
use Rattle.ih_plan.specs.declared.moves.Move.{Move}
use Rattle.ih_plan.specs.declared.moves.Move.TheVariants.{Idle, Place, Withdraw, SetDay, SetRoom, SetTheatre, SwapRooms, Nurse, NurseRun, SwapNurses}
use Rattle.ih_journal.specs.Texts.{move_text, named, numbers}
use Rattle.ih_journal.specs.Grammar.{parted}
use Rattle.ih_journal.specs.Names.{by_name, move_name, move_numbers, move_named, moves_of_one, moves_of_two, moves_of_three, moves_of_four, AreShort}
use Rattle.ih_journal.proofs.Spelling.{AllSpelled, IsNamed, IsSpelled, spelled_by, some_where, either_way, listed, along, one, two, three, four, named_made, none_where, same_named}
use Rattle.ih_journal.specs.Pieces.{IsCut}
use Rattle.ih_journal.proofs.Separators.{parted_some}
use Rattle.ih_journal.proofs.Lacking.{Lacks, lacks, lacks_known, parted_joined, parted_text, cut_joined, lacks_joined, numbers_lack, plain, plain_lacks, low_mark, same_tails, colon, comma}

-- a name, a colon and numbers, parted
named_cut : (name : List ℕ) (n : ℕ) (ns bs : List ℕ) → lacks 58 name ≡ true → AreShort (n ∷ ns) → bs ≡ named name (n ∷ ns) → IsCut 58 44 bs name (n ∷ ns)
named_cut name n ns bs known short is =
    let free = lacks_joined 58 44 (map decimal (n ∷ ns)) (λ e. omega (arith, e)) (numbers_lack 58 (n ∷ ns) colon short) in
    let one = All-cons (Lacks 58) (numbers (n ∷ ns)) [] free (All-nil (Lacks 58)) in
    record {
      rest = numbers (n ∷ ns);
      cut = ap (parted 58) is ∙ parted_joined 58 name (numbers (n ∷ ns) ∷ []) (All-cons (Lacks 58) name (numbers (n ∷ ns) ∷ []) (lacks_known 58 name known) one)
          ∙ ap (λ (r : List (List ℕ)). name ∷ r) (sym (parted_joined 58 (numbers (n ∷ ns)) [] one));
      read = parted_joined 44 (decimal n) (map decimal ns) (numbers_lack 44 (n ∷ ns) comma short);
      short = short;
    }

named_lacks : (m : ℕ) (name : List ℕ) (ns : List ℕ) → m ≤ 32 → plain name ≡ true → AreShort ns → Lacks m (named name ns)
named_lacks m name ns low known short =
    All-append (λ b. (b == m) ≡ false) name (58 ∷ numbers ns) (plain_lacks m name low known)
    (All-cons (λ b. (b == m) ≡ false) 58 (numbers ns) (ne_eqb 58 m (λ e. omega (arith, e, low)))
    (lacks_joined m 44 (map decimal ns) (λ e. omega (arith, e, low)) (numbers_lack m ns (low_mark m low) short)))

-- the bytes are the text of a move with numbers
abbrev pub IsMoveText : Move → List ℕ → Type 0
IsMoveText m bs = IsNamed move_named 58 44 4 (move_name m) (move_numbers m) bs m

pub move_cases : (m : Move) (bs : List ℕ) → AreShort (move_numbers m) → bs ≡ move_text m → ((m ≡ Idle) × (bs ≡ codes "idle")) ⊎ IsMoveText m bs
unfolding move_text move_named
move_cases Idle bs short is = inl (refl, is)
move_cases (Place p at) bs short is = inr (record { cut = named_cut (codes "place") p.0 (at.day.0 ∷ at.room.0 ∷ at.theatre.0 ∷ []) bs refl short is; few = lit≤ tt; made = refl })
move_cases (Withdraw p) bs short is = inr (record { cut = named_cut (codes "withdraw") p.0 [] bs refl short is; few = lit≤ tt; made = refl })
move_cases (SetDay p d) bs short is = inr (record { cut = named_cut (codes "setday") p.0 (d.0 ∷ []) bs refl short is; few = lit≤ tt; made = refl })
move_cases (SetRoom p r) bs short is = inr (record { cut = named_cut (codes "setroom") p.0 (r.0 ∷ []) bs refl short is; few = lit≤ tt; made = refl })
move_cases (SetTheatre p t) bs short is = inr (record { cut = named_cut (codes "settheatre") p.0 (t.0 ∷ []) bs refl short is; few = lit≤ tt; made = refl })
move_cases (SwapRooms p q) bs short is = inr (record { cut = named_cut (codes "swaprooms") p.0 (q.0 ∷ []) bs refl short is; few = lit≤ tt; made = refl })
move_cases (Nurse r k n) bs short is = inr (record { cut = named_cut (codes "nurse") r.0 (k.0 ∷ n.0 ∷ []) bs refl short is; few = lit≤ tt; made = refl })
move_cases (NurseRun n r d len) bs short is = inr (record { cut = named_cut (codes "nurserun") n.0 (r.0 ∷ d.0 ∷ len ∷ []) bs refl short is; few = lit≤ tt; made = refl })
move_cases (SwapNurses k a b) bs short is = inr (record { cut = named_cut (codes "swapnurses") k.0 (a.0 ∷ b.0 ∷ []) bs refl short is; few = lit≤ tt; made = refl })

-- ---- a move that was made of a name and numbers

-- the text and the numbers are those of the move
abbrev Spells : List ℕ → List ℕ → Move → Type 0
Spells = IsSpelled named move_text move_numbers

of_table : (name ns : List ℕ) (es : List (List ℕ × Move)) → AllSpelled named move_text move_numbers ns es → spelled_by Spells name ns (by_name name es)
of_table = listed named move_text move_numbers

of_one : (name : List ℕ) (a : ℕ) → spelled_by Spells name (a ∷ []) (by_name name (moves_of_one a))
unfolding move_text
of_one name a = of_table name (a ∷ []) (moves_of_one a) (refl, refl, tt)

of_two : (name : List ℕ) (a b : ℕ) → spelled_by Spells name (a ∷ b ∷ []) (by_name name (moves_of_two a b))
unfolding move_text
of_two name a b = of_table name (a ∷ b ∷ []) (moves_of_two a b) (refl, refl, (refl, refl, (refl, refl, (refl, refl, tt))))

of_three : (name : List ℕ) (a b c : ℕ) → spelled_by Spells name (a ∷ b ∷ c ∷ []) (by_name name (moves_of_three a b c))
unfolding move_text
of_three name a b c = of_table name (a ∷ b ∷ c ∷ []) (moves_of_three a b c) (refl, refl, (refl, refl, tt))

of_four : (name : List ℕ) (a b c d : ℕ) → spelled_by Spells name (a ∷ b ∷ c ∷ d ∷ []) (by_name name (moves_of_four a b c d))
unfolding move_text
of_four name a b c d = of_table name (a ∷ b ∷ c ∷ d ∷ []) (moves_of_four a b c d) (refl, refl, (refl, refl, tt))

-- what a name and numbers give has their text
pub move_spelled : (name ns : List ℕ) → spelled_by Spells name ns (move_named name ns)
unfolding move_named
move_spelled name ns =
    either_way Spells (length ns == 1) name ns _ _ (λ h. along Spells name _ ns _ (one ns (eqb-true (length ns) 1 h)) (of_one name (slice_index ns 0)))
    (either_way Spells (length ns == 2) name ns _ _ (λ h. along Spells name _ ns _ (two ns (eqb-true (length ns) 2 h)) (of_two name (slice_index ns 0) (slice_index ns 1)))
    (either_way Spells (length ns == 3) name ns _ _ (λ h. along Spells name _ ns _ (three ns (eqb-true (length ns) 3 h)) (of_three name (slice_index ns 0) (slice_index ns 1) (slice_index ns 2)))
    (either_way Spells (length ns == 4) name ns _ None
    (λ h. along Spells name _ ns _ (four ns (eqb-true (length ns) 4 h)) (of_four name (slice_index ns 0) (slice_index ns 1) (slice_index ns 2) (slice_index ns 3))) tt)))

-- ---- bytes that were cut at a colon and then read as numbers

cut_text : (bs name ns : List ℕ) → IsCut 58 44 bs name ns → bs ≡ named name ns
cut_text bs name ns cut =
    cut_joined 58 bs name cut.rest cut.cut ∙ ap (λ (r : List ℕ). name ++ (58 ∷ r)) (parted_text 44 cut.rest (map decimal ns) cut.read)

-- what is read has the bytes as its text
pub read_some : (bs name ns : List ℕ) → IsCut 58 44 bs name ns → IfSome (move_named name ns) (λ m. (bs ≡ move_text m) × AreShort (move_numbers m))
read_some bs name ns cut =
    some_where named move_text move_numbers (move_named name ns) bs name ns (cut_text bs name ns cut) cut.short (move_spelled name ns)

-- nothing is read only of bytes that are the text of no move
pub read_none : (bs name ns : List ℕ) → (bs ≡ codes "idle" → ⊥) → IsCut 58 44 bs name ns
    → IfNone (move_named name ns) ((m : Move) → AreShort (move_numbers m) → bs ≡ move_text m → ⊥)
read_none bs name ns not_idle cut = none_where (move_named name ns) (λ m. AreShort (move_numbers m)) (λ m. bs ≡ move_text m) each
  where
    each : (m : Move) → AreShort (move_numbers m) → bs ≡ move_text m → move_named name ns ≡ Some m
    each m short is = elim (move_cases m bs short is) [
      | inl w ↦ absurd (not_idle w.1)
      | inr w ↦ named_made move_named 58 44 4 bs (move_name m) (move_numbers m) name ns m w cut
    ]

idle_uncut : (bs name ns : List ℕ) → bs ≡ codes "idle" → IsCut 58 44 bs name ns → ⊥
idle_uncut bs name ns is cut =
    let whole : parted 58 bs ≡ codes "idle" ∷ [] = ap (parted 58) is in
    let none = ap (λ (xs : List (List ℕ)). length xs) (same_tails whole cut.cut) in
    let some = parted_some 58 cut.rest in
    omega (arith, none, some)

pub moves_differ : (m n : Move) → AreShort (move_numbers m) → AreShort (move_numbers n) → move_text m ≡ move_text n → m ≡ n
moves_differ m n short_m short_n h =
    elim (move_cases m (move_text m) short_m refl) [
      | inl w ↦ elim (move_cases n (move_text m) short_n h) [
        | inl v ↦ w.0 ∙ sym v.0
        | inr v ↦ absurd (idle_uncut (move_text m) _ _ w.1 v.cut)
      ]
      | inr w ↦ elim (move_cases n (move_text m) short_n h) [
        | inl v ↦ absurd (idle_uncut (move_text m) _ _ v.1 w.cut)
        | inr v ↦ same_named move_named 58 44 4 (move_text m) (move_name m) (move_numbers m) (move_name n) (move_numbers n) m n w v
      ]
    ]

-- no move's text has a space or a line feed
pub move_lacks : (c : ℕ) (m : Move) → c ≤ 32 → AreShort (move_numbers m) → Lacks c (move_text m)
unfolding move_text
move_lacks c Idle low short = plain_lacks c (codes "idle") low refl
move_lacks c (Place p at) low short = named_lacks c (codes "place") (p.0 ∷ at.day.0 ∷ at.room.0 ∷ at.theatre.0 ∷ []) low refl short
move_lacks c (Withdraw p) low short = named_lacks c (codes "withdraw") (p.0 ∷ []) low refl short
move_lacks c (SetDay p d) low short = named_lacks c (codes "setday") (p.0 ∷ d.0 ∷ []) low refl short
move_lacks c (SetRoom p r) low short = named_lacks c (codes "setroom") (p.0 ∷ r.0 ∷ []) low refl short
move_lacks c (SetTheatre p t) low short = named_lacks c (codes "settheatre") (p.0 ∷ t.0 ∷ []) low refl short
move_lacks c (SwapRooms p q) low short = named_lacks c (codes "swaprooms") (p.0 ∷ q.0 ∷ []) low refl short
move_lacks c (Nurse r k n) low short = named_lacks c (codes "nurse") (r.0 ∷ k.0 ∷ n.0 ∷ []) low refl short
move_lacks c (NurseRun n r d len) low short = named_lacks c (codes "nurserun") (n.0 ∷ r.0 ∷ d.0 ∷ len ∷ []) low refl short
move_lacks c (SwapNurses k a b) low short = named_lacks c (codes "swapnurses") (k.0 ∷ a.0 ∷ b.0 ∷ []) low refl short
