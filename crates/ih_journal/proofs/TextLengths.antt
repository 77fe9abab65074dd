-- How long texts are: of numbers, of moves, cells and verdicts, of lines and of journals.
use Rattle.std.proofs.Common.{◌≡◌, ℕ, zero, suc, ◌+◌, ◌*◌, ◌<◌, ◌≤◌, ◌^◌, refl, arith, List, [], ◌∷◌, ◌++◌, length, map, decimal, Some}
use Rattle.std.specs.Prelude.{codes, slice_get}
use Rattle.std.specs.List.{join_with_byte}
use Rattle.std.specs.Fmt.{signed_decimal}
use Rattle.std.proofs.lemmas.Fmt.{length-decimal-le}
use Rattle.std.proofs.lemmas.List.{length-append}
use Rattle.ih_tables.specs.declared.drafts.Draft.{Draft}
use Rattle.ih_tables.specs.declared.bills.Bill.{Bill}
use Rattle.ih_tables.specs.declared.cells.Cell.{Cell}
use Rattle.ih_tables.specs.declared.cells.Cell.TheVariants.{Stay, RoomDay, TheatreDay, SurgeonDay, RoomShift, NurseShift, Care}
use Rattle.ih_plan.specs.declared.moves.Move.{Move}
use Rattle.ih_plan.specs.declared.moves.Move.TheVariants.{Idle, Place, Withdraw, SetDay, SetRoom, SetTheatre, SwapRooms, Nurse, NurseRun, SwapNurses}
use Rattle.ih_plan.specs.Expand.{IsMoveOf}
use Rattle.ih_plan.specs.Cells.{IsCellOf}
use Rattle.ih_plan.specs.Series.{AreMoves}
use Rattle.ih_journal.specs.Tried.{Tried, tried}
use Rattle.ih_journal.specs.declared.settings.Options.{Options}
use Rattle.ih_journal.specs.declared.entries.Entry.{Entry}
use Rattle.ih_journal.specs.declared.entries.Verdict.{Verdict}
use Rattle.ih_journal.specs.declared.entries.Verdict.TheVariants.{Accepted, Declined, Stale, Frozen}
use Rattle.ih_journal.specs.Settings.{IsLawful}
use Rattle.ih_journal.specs.Texts.{again_field, cell_text, dotted, ended, fields, heading, journal, line_text, lines_from, move_text, named, option_text, price_text, retries_field, verdict_text, version_text}
use Rattle.ih_journal.proofs.InRange.{IsLimited}

-- ---- texts that are joined

-- the texts are as many as the numbers, and each is at most so long
abbrev pub Fit : List ℕ → List (List ℕ) → Type 0
Fit [] [] = Unit {0}
Fit [] (x ∷ xs) = ⊥
Fit (w ∷ ws) [] = ⊥
Fit (w ∷ ws) (x ∷ xs) = (length x ≤ w) × Fit ws xs

-- how long such texts are together, with a separator between each two
abbrev pub joined_most : List ℕ → ℕ
joined_most [] = 0
joined_most (w ∷ []) = w
joined_most (w ∷ v ∷ ws) = w + (1 + joined_most (v ∷ ws))

pub joined-length : (c : ℕ) (ws : List ℕ) (xs : List (List ℕ)) → Fit ws xs → length (join_with_byte c xs) ≤ joined_most ws
joined-length c [] [] fit = omega arith
joined-length c [] (x ∷ xs) fit = absurd fit
joined-length c (w ∷ ws) [] fit = absurd fit
joined-length c (w ∷ []) (x ∷ []) fit = fit.0
joined-length c (w ∷ []) (x ∷ y ∷ ys) fit = absurd fit.1
joined-length c (w ∷ v ∷ ws) (x ∷ []) fit = absurd fit.1
joined-length c (w ∷ v ∷ ws) (x ∷ y ∷ ys) fit =
    let rest = joined-length c (v ∷ ws) (y ∷ ys) fit.1 in
    let first = fit.0 in
    let len = length-append x (c ∷ join_with_byte c (y ∷ ys)) in
    omega (arith, rest, first, len)

-- ---- numbers

-- numbers of at most two digits, of four and of seven
pub number2 : (n : ℕ) → n < 10 ^ 2 → length (decimal n) ≤ 2
number2 n h = length-decimal-le 2 n (omega arith) h (omega (arith, h))

number4 : (n : ℕ) → n < 10 ^ 4 → length (decimal n) ≤ 4
number4 n h = length-decimal-le 4 n (omega arith) h (omega (arith, h))

pub number7 : (n : ℕ) → n < 10 ^ 7 → length (decimal n) ≤ 7
number7 n h = length-decimal-le 7 n (omega arith) h (omega (arith, h))

-- ---- moves and cells

named1 : (name : List ℕ) (a : ℕ) → a < 10 ^ 4 → length (named name (a ∷ [])) ≤ length name + 5
named1 name a ha =
    let numbers = joined-length 44 (4 ∷ []) (decimal a ∷ []) (number4 a ha, tt) in
    let len = length-append name (58 ∷ join_with_byte 44 (decimal a ∷ [])) in
    omega (arith, numbers, len)

named2 : (name : List ℕ) (a b : ℕ) → a < 10 ^ 4 → b < 10 ^ 4 → length (named name (a ∷ b ∷ [])) ≤ length name + 10
named2 name a b ha hb =
    let numbers = joined-length 44 (4 ∷ 4 ∷ []) (decimal a ∷ decimal b ∷ []) (number4 a ha, (number4 b hb, tt)) in
    let len = length-append name (58 ∷ join_with_byte 44 (decimal a ∷ decimal b ∷ [])) in
    omega (arith, numbers, len)

named3 : (name : List ℕ) (a b c : ℕ) → a < 10 ^ 4 → b < 10 ^ 4 → c < 10 ^ 4 → length (named name (a ∷ b ∷ c ∷ [])) ≤ length name + 15
named3 name a b c ha hb hc =
    let numbers = joined-length 44 (4 ∷ 4 ∷ 4 ∷ []) (decimal a ∷ decimal b ∷ decimal c ∷ []) (number4 a ha, (number4 b hb, (number4 c hc, tt))) in
    let len = length-append name (58 ∷ join_with_byte 44 (decimal a ∷ decimal b ∷ decimal c ∷ [])) in
    omega (arith, numbers, len)

named4 : (name : List ℕ) (a b c d : ℕ) → a < 10 ^ 4 → b < 10 ^ 4 → c < 10 ^ 4 → d < 10 ^ 4 → length (named name (a ∷ b ∷ c ∷ d ∷ [])) ≤ length name + 20
named4 name a b c d ha hb hc hd =
    let numbers = joined-length 44 (4 ∷ 4 ∷ 4 ∷ 4 ∷ []) (decimal a ∷ decimal b ∷ decimal c ∷ decimal d ∷ [])
    (number4 a ha, (number4 b hb, (number4 c hc, (number4 d hd, tt)))) in
    let len = length-append name (58 ∷ join_with_byte 44 (decimal a ∷ decimal b ∷ decimal c ∷ decimal d ∷ [])) in
    omega (arith, numbers, len)

pub move-length : (I : Draft) (m : Move) → IsLimited I → IsMoveOf I m → length (move_text m) ≤ 28
unfolding move_text
move-length I Idle l h = omega arith
move-length I (Place p at) l h = let n = named4 (codes "place") p.0 at.day.0 at.room.0 at.theatre.0 (omega arith) (omega arith) (omega arith) (omega arith) in omega (arith, n)
move-length I (Withdraw p) l h = let n = named1 (codes "withdraw") p.0 (omega arith) in omega (arith, n)
move-length I (SetDay p d) l h = let n = named2 (codes "setday") p.0 d.0 (omega arith) (omega arith) in omega (arith, n)
move-length I (SetRoom p r) l h = let n = named2 (codes "setroom") p.0 r.0 (omega arith) (omega arith) in omega (arith, n)
move-length I (SetTheatre p t) l h = let n = named2 (codes "settheatre") p.0 t.0 (omega arith) (omega arith) in omega (arith, n)
move-length I (SwapRooms p q) l h = let n = named2 (codes "swaprooms") p.0 q.0 (omega arith) (omega arith) in omega (arith, n)
move-length I (Nurse r k n) l h = let t = named3 (codes "nurse") r.0 k.0 n.0 (omega arith) (omega arith) (omega arith) in omega (arith, t)
move-length I (NurseRun n r d len) l h = let t = named4 (codes "nurserun") n.0 r.0 d.0 len (omega arith) (omega arith) (omega arith) (omega arith) in omega (arith, t)
move-length I (SwapNurses k a b) l h = let t = named3 (codes "swapnurses") k.0 a.0 b.0 (omega arith) (omega arith) (omega arith) in omega (arith, t)

dotted1 : (name : List ℕ) (a : ℕ) → length name ≤ 10 → a < 10 ^ 4 → length (dotted name (a ∷ [])) ≤ 20
dotted1 name a small ha = let all = joined-length 46 (10 ∷ 4 ∷ []) (name ∷ decimal a ∷ []) (small, (number4 a ha, tt)) in omega (arith, all)

dotted2 : (name : List ℕ) (a b : ℕ) → length name ≤ 10 → a < 10 ^ 4 → b < 10 ^ 4 → length (dotted name (a ∷ b ∷ [])) ≤ 20
dotted2 name a b small ha hb =
    let all = joined-length 46 (10 ∷ 4 ∷ 4 ∷ []) (name ∷ decimal a ∷ decimal b ∷ []) (small, (number4 a ha, (number4 b hb, tt))) in omega (arith, all)

pub cell-length : (I : Draft) (c : Cell) → IsLimited I → IsCellOf I c → length (cell_text c) ≤ 20
unfolding cell_text
cell-length I (Stay p) l h = dotted1 (codes "stay") p.0 (omega arith) (omega arith)
cell-length I (RoomDay r d) l h = dotted2 (codes "roomday") r.0 d.0 (omega arith) (omega arith) (omega arith)
cell-length I (TheatreDay t d) l h = dotted2 (codes "theatreday") t.0 d.0 (omega arith) (omega arith) (omega arith)
cell-length I (SurgeonDay s d) l h = dotted2 (codes "surgeonday") s.0 d.0 (omega arith) (omega arith) (omega arith)
cell-length I (RoomShift r k) l h = dotted2 (codes "roomshift") r.0 k.0 (omega arith) (omega arith) (omega arith)
cell-length I (NurseShift n k) l h = dotted2 (codes "nurseshift") n.0 k.0 (omega arith) (omega arith) (omega arith)
cell-length I (Care x) l h = dotted1 (codes "care") x.0 (omega arith) (omega arith)

-- ---- verdicts

-- a stale verdict's cell is one of the instance, and its versions have at most seven digits
abbrev pub IsShortVerdict : Draft → Verdict → Type 0
IsShortVerdict I (Stale c seen place) = IsCellOf I c × (seen < 10 ^ 7) × (place < 10 ^ 7)
IsShortVerdict I v = Unit {0}

pub verdict-length : (I : Draft) (v : Verdict) → IsLimited I → IsShortVerdict I v → length (verdict_text v) ≤ 42
verdict-length I Accepted l h = omega arith
verdict-length I Declined l h = omega arith
verdict-length I Frozen l h = omega arith
verdict-length I (Stale c seen place) l h =
    let name : length (codes "stale") ≤ 5 = omega arith in
    let all = joined-length 58 (5 ∷ 20 ∷ 7 ∷ 7 ∷ []) (codes "stale" ∷ cell_text c ∷ decimal seen ∷ decimal place ∷ [])
    (name, (cell-length I c l h.0, (number7 seen h.1, (number7 place h.2, tt)))) in
    omega (arith, all)

-- ---- lines

-- The most bytes of the seventeen numbers of a price, each with its sign: see how many digits the numbers of a change
-- have.
abbrev pub price_widths : List ℕ
price_widths = 6 ∷ 6 ∷ 10 ∷ 10 ∷ 6 ∷ 6 ∷ 9 ∷ 6 ∷ 6 ∷ 13 ∷ 13 ∷ 8 ∷ 13 ∷ 6 ∷ 7 ∷ 7 ∷ 6 ∷ []

-- each number of the price fits
abbrev pub IsShortPrice : Bill → Type 0
IsShortPrice b = Fit price_widths (map signed_decimal (b.v ++ b.s))

pub price-length : (b : Bill) → IsShortPrice b → length (price_text b) ≤ 154
price-length b h = let all = joined-length 44 price_widths (map signed_decimal (b.v ++ b.s)) h in omega (arith, all)

-- the numbers of what is tried are short, and what it names is in range, whatever number of moves it has
pub record IsShortTried (I : Draft) (k : ℕ) (e : Tried) : Type 0 where
  pub place : k < 10 ^ 7
  pub worker : e.worker < 10 ^ 2
  pub number : e.number < 10 ^ 7
  pub again : e.again < 10
  pub seen : e.seen < 10 ^ 7
  pub move : AreMoves I e.moves
  pub price : IsShortPrice e.price
  pub verdict : IsShortVerdict I e.verdict

-- the line of such an entry, without its line feed
line-length : (I : Draft) (o : Options) (k : ℕ) (e : Entry) → IsLimited I → IsShortTried I k (tried e) → length (line_text o k e) ≤ 255
unfolding fields
line-length I o k e l short = by_form o.retries
  where
    price : length (price_text e.price) ≤ 154
    price = price-length e.price short.price

    two : length (decimal e.worker) ≤ 2
    two = number2 e.worker short.worker

    one : length (decimal e.again) ≤ 1
    one = let h = short.again in length-decimal-le 1 e.again (omega arith) (omega (arith, h)) (omega (arith, h))

    by_form : (r : ℕ) → length (join_with_byte 32 (decimal k ∷ decimal e.worker ∷ decimal e.number ∷ again_field r e.again
        ++ decimal e.seen ∷ move_text e.mv ∷ price_text e.price ∷ verdict_text e.verdict ∷ [])) ≤ 255
    by_form zero =
        let all = joined-length 32 (7 ∷ 2 ∷ 7 ∷ 7 ∷ 28 ∷ 154 ∷ 42 ∷ [])
        (decimal k ∷ decimal e.worker ∷ decimal e.number ∷ decimal e.seen ∷ move_text e.mv ∷ price_text e.price ∷ verdict_text e.verdict ∷ [])
        (number7 k short.place, (two, (number7 e.number short.number, (number7 e.seen short.seen, (move-length I e.mv l short.move.0, (price, (verdict-length I e.verdict l short.verdict, tt))))))) in
        omega (arith, all)
    by_form (suc r) =
        let all = joined-length 32 (7 ∷ 2 ∷ 7 ∷ 1 ∷ 7 ∷ 28 ∷ 154 ∷ 42 ∷ [])
        (decimal k ∷ decimal e.worker ∷ decimal e.number ∷ decimal e.again ∷ decimal e.seen ∷ move_text e.mv ∷ price_text e.price ∷ verdict_text e.verdict ∷ []) (
          number7 k short.place,
          (
            two,
            (
              number7 e.number short.number,
              (one, (number7 e.seen short.seen, (move-length I e.mv l short.move.0, (price, (verdict-length I e.verdict l short.verdict, tt))))),
            ),
          ),
        ) in
        omega (arith, all)

-- ---- journals

pub ended-length : (text : List ℕ) → length (ended text) ≡ length text + 1
ended-length text = length-append text (10 ∷ [])

pub lines-length : (I : Draft) (o : Options) (k : ℕ) (H : List Entry) → IsLimited I → ((j : ℕ) (e : Entry) → slice_get H j ≡ Some e → IsShortTried I (k + j) (tried e))
    → length (lines_from o k H) ≤ 256 * length H
unfolding lines_from
lines-length I o k [] l short = omega arith
lines-length I o k (e ∷ es) l short =
    let here : k + 0 ≡ k = omega arith in
    let first = line-length I o k e l (rw here at (short 0 e refl)) in
    let end = ended-length (line_text o k e) in
    let rest = lines-length I o (k + 1) es l (λ j f at. let next : (k + 1) + j ≡ k + suc j = omega arith in rw next (short (suc j) f at)) in
    let all = length-append (ended (line_text o k e)) (lines_from o (k + 1) es) in
    omega (arith, first, end, rest, all)

pub option-length : (name : List ℕ) (w n : ℕ) → 0 < w → n < 10 ^ w → n < 2 ^ 64 → length (option_text name n) ≤ length name + (1 + w)
option-length name w n some h small =
    let number = length-decimal-le w n some h small in
    let all = length-append name (61 ∷ decimal n) in
    omega (arith, number, all)

seven-digits : (name : List ℕ) (n : ℕ) → n < 10 ^ 7 → length (option_text name n) ≤ length name + 8
seven-digits name n small = option-length name 7 n (omega arith) small (omega (arith, small))

-- the options of a heading
module _ (o : Options) (lawful : IsLawful o) (seed : o.seed < 2 ^ 64) where
  pub seed-length : length (option_text (codes "seed") o.seed) ≤ 25
  seed-length = let n = option-length (codes "seed") 20 o.seed (omega arith) (omega (arith, seed)) seed in omega (arith, n)

  pub workers-length : length (option_text (codes "workers") o.workers) ≤ 15
  workers-length = let n = seven-digits (codes "workers") o.workers (let most = lawful.workers in omega (arith, most)) in omega (arith, n)

  pub moves-length : length (option_text (codes "moves") o.moves) ≤ 13
  moves-length = let n = seven-digits (codes "moves") o.moves (let most = lawful.moves in omega (arith, most)) in omega (arith, n)

  pub heat-length : length (option_text (codes "heat") o.heat) ≤ 12
  heat-length = let n = seven-digits (codes "heat") o.heat (let most = lawful.heat in omega (arith, most)) in omega (arith, n)

  pub hard-length : length (option_text (codes "hard") o.hard) ≤ 12
  hard-length = let n = seven-digits (codes "hard") o.hard (let most = lawful.hard in omega (arith, most)) in omega (arith, n)

heading-length : (o : Options) → IsLawful o → o.seed < 2 ^ 64 → length (heading o) ≤ 127
unfolding heading
heading-length o lawful seed = by_form o.retries lawful.retries
  where
    title : length (codes "ihjournal") ≤ 9
    title = omega arith

    seeds : length (option_text (codes "seed") o.seed) ≤ 25
    seeds = seed-length o lawful seed

    workers : length (option_text (codes "workers") o.workers) ≤ 15
    workers = workers-length o lawful seed

    moves : length (option_text (codes "moves") o.moves) ≤ 13
    moves = moves-length o lawful seed

    heat : length (option_text (codes "heat") o.heat) ≤ 12
    heat = heat-length o lawful seed

    hard : length (option_text (codes "hard") o.hard) ≤ 12
    hard = hard-length o lawful seed

    by_form : (r : ℕ) → r ≤ 7 → length (join_with_byte 32 (codes "ihjournal" ∷ version_text r ∷ option_text (codes "seed") o.seed ∷ option_text (codes "workers") o.workers
        ∷ option_text (codes "moves") o.moves ∷ option_text (codes "heat") o.heat ∷ option_text (codes "hard") o.hard ∷ retries_field r)) ≤ 127
    by_form zero few =
        let version : length (codes "1") ≤ 1 = omega arith in
        let all = joined-length 32 (9 ∷ 1 ∷ 25 ∷ 15 ∷ 13 ∷ 12 ∷ 12 ∷ [])
        (codes "ihjournal" ∷ codes "1" ∷ option_text (codes "seed") o.seed ∷ option_text (codes "workers") o.workers ∷ option_text (codes "moves") o.moves
        ∷ option_text (codes "heat") o.heat ∷ option_text (codes "hard") o.hard ∷ [])
        (title, (version, (seeds, (workers, (moves, (heat, (hard, tt))))))) in
        omega (arith, all)
    by_form (suc r) few =
        let version : length (codes "2") ≤ 1 = omega arith in
        let retries : length (option_text (codes "retries") (suc r)) ≤ 9 =
        (let n = option-length (codes "retries") 1 (suc r) (omega arith) (omega (arith, few)) (omega (arith, few)) in omega (arith, n)) in
        let all = joined-length 32 (9 ∷ 1 ∷ 25 ∷ 15 ∷ 13 ∷ 12 ∷ 12 ∷ 9 ∷ [])
        (codes "ihjournal" ∷ codes "2" ∷ option_text (codes "seed") o.seed ∷ option_text (codes "workers") o.workers ∷ option_text (codes "moves") o.moves
        ∷ option_text (codes "heat") o.heat ∷ option_text (codes "hard") o.hard ∷ option_text (codes "retries") (suc r) ∷ [])
        (title, (version, (seeds, (workers, (moves, (heat, (hard, (retries, tt)))))))) in
        omega (arith, all)

-- the journal of a search's options and its entries
pub journal-length : (I : Draft) (o : Options) (H : List Entry) → IsLimited I → IsLawful o → o.seed < 2 ^ 64
    → ((j : ℕ) (e : Entry) → slice_get H j ≡ Some e → IsShortTried I j (tried e)) → length (journal o H) ≤ 128 + 256 * length H
journal-length I o H l lawful seed short =
    let first = heading-length o lawful seed in
    let end = ended-length (heading o) in
    let rest = lines-length I o 0 H l (λ j e at. let here : 0 + j ≡ j = omega arith in rw here (short j e at)) in
    let all = length-append (ended (heading o)) (lines_from o 0 H) in
    omega (arith, first, end, rest, all)
