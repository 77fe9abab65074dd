-- The table of loads, as it grows, and its entry for a nurse and a shift.
use Rattle.std.proofs.Common.{◌≡◌, ℕ, ◌+◌, ◌*◌, ◌/◌, ◌%◌, ◌<◌, List, [], ◌∷◌, ◌++◌, length, get_or, arith, sym, mul_comm}
use Rattle.std.specs.Prelude.{map, Option}
use Rattle.std.specs.List.{range_with_len}
use Rattle.std.proofs.lemmas.Nat.{div-mul-add, mod-mul-add, mul-add-lt}
use Rattle.std.proofs.lemmas.List.FromFn.{map-range_with_len_more, get_or-map-range_with_len, length-map-range_with_len}
use Rattle.ih_tables.specs.declared.drafts.Draft.{Draft}
use Rattle.ih_tables.specs.Sizes.{nurse_count, shift_count}
use Rattle.ih_tables.specs.Works.{max_load, load_table}

-- one more entry
pub load_more : (I : Draft) (i : ℕ) (loads : List (Option ℕ)) → loads ≡ map (λ j. max_load I (j / shift_count I) (j % shift_count I)) (range_with_len 0 i)
    → loads ++ max_load I (i / shift_count I) (i % shift_count I) ∷ []
    ≡ map (λ j. max_load I (j / shift_count I) (j % shift_count I)) (range_with_len 0 (i + 1))
load_more I i loads so_far =
    rw so_far (sym (map-range_with_len_more (λ j. max_load I (j / shift_count I) (j % shift_count I)) 0 i i (omega arith)))

-- the place of a nurse and a shift is in the table
pub load_inside : (I : Draft) (n k : ℕ) → n < nurse_count I → k < shift_count I → n * shift_count I + k < nurse_count I * shift_count I
load_inside I n k nurse shift = rw (mul_comm (nurse_count I) (shift_count I)) (mul-add-lt n (shift_count I) k (nurse_count I) nurse shift)

pub load_place : (I : Draft) (loads : List (Option ℕ)) (n k : ℕ) → loads ≡ load_table I → n < nurse_count I → k < shift_count I → n * shift_count I + k < length loads
load_place I loads n k listed nurse shift =
    rw (listed, length-map-range_with_len) (load_inside I n k nurse shift)

-- the entry there is the nurse's maximum load
pub load_found : (I : Draft) (loads : List (Option ℕ)) (n k : ℕ) (d : Option ℕ) → loads ≡ load_table I → n < nurse_count I → k < shift_count I → get_or loads (n * shift_count I + k) d ≡ max_load I n k
load_found I loads n k d listed nurse shift =
    let s = shift_count I in
    let f : ℕ → Option ℕ = λ j. max_load I (j / shift_count I) (j % shift_count I) in
    let there = get_or-map-range_with_len f 0 (nurse_count I * s) (n * s + k) (n * s + k) d (load_inside I n k nurse shift) (omega arith) in
    rw listed (rw (div-mul-add n s k shift, mod-mul-add n s k shift) at there)
