-- The nurses of a shift, as the list grows, and the table of them.
use Rattle.std.proofs.Common.{◌≡◌, ℕ, ◌+◌, ◌<◌, true, false, List, [], ◌∷◌, ◌++◌, length, get_or, arith, sym}
use Rattle.std.specs.Prelude.{map, filter, is_some}
use Rattle.std.specs.List.{range_with_len}
use Rattle.std.proofs.lemmas.List.{append-nil}
use Rattle.std.proofs.lemmas.List.FromFn.{map-range_with_len_more, filter_of_map_range_with_len_more, get_or-map-range_with_len, length-map-range_with_len}
use Rattle.ih_tables.specs.declared.drafts.Draft.{Draft}
use Rattle.ih_tables.specs.declared.ids.NurseNo.{NurseNo}
use Rattle.ih_tables.specs.Sizes.{shift_count}
use Rattle.ih_tables.specs.Works.{max_load, first_nurses, is_working, working, roster_table}

-- one more nurse: one who works, and one who doesn't
pub working_more : (I : Draft) (k n : ℕ) (nurses : List NurseNo) → nurses ≡ filter (is_working I k) (first_nurses n) → is_some (max_load I n k) ≡ true
    → nurses ++ record { 0 = n } ∷ [] ≡ filter (is_working I k) (first_nurses (n + 1))
working_more I k n nurses so_far works =
    let more = filter_of_map_range_with_len_more (is_working I k) (λ i. record { 0 = i }) 0 n n (omega arith) in
    rw so_far (sym (rw works at more))

pub working_same : (I : Draft) (k n : ℕ) (nurses : List NurseNo) → nurses ≡ filter (is_working I k) (first_nurses n) → is_some (max_load I n k) ≡ false
    → nurses ≡ filter (is_working I k) (first_nurses (n + 1))
working_same I k n nurses so_far absent =
    let more = filter_of_map_range_with_len_more (is_working I k) (λ i. record { 0 = i }) 0 n n (omega arith) in
    rw so_far (sym (rw (absent, append-nil) at more))

-- one more shift
pub rosters_more : (I : Draft) (k : ℕ) (rosters : List (List NurseNo)) → rosters ≡ map (working I) (range_with_len 0 k) → rosters ++ working I k ∷ [] ≡ map (working I) (range_with_len 0 (k + 1))
rosters_more I k rosters so_far = rw so_far (sym (map-range_with_len_more (working I) 0 k k (omega arith)))

-- every shift is in the table, with its nurses
pub roster_inside : (I : Draft) (rosters : List (List NurseNo)) (k : ℕ) → rosters ≡ roster_table I → k < shift_count I → k < length rosters
roster_inside I rosters k listed shift = rw (listed, length-map-range_with_len) shift

pub roster_found : (I : Draft) (rosters : List (List NurseNo)) (k : ℕ) (d : List NurseNo) → rosters ≡ roster_table I → k < shift_count I → get_or rosters k d ≡ working I k
roster_found I rosters k d listed shift = rw listed (get_or-map-range_with_len (working I) 0 (shift_count I) k k d shift (omega arith))
