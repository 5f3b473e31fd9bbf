-- Laws: a row put into the store. Assumes nothing.
use Prim.Native.Nat.{ℕ, zero, suc, ◌+◌, ◌-◌, ◌≤◌, ◌<◌}
use native.Mathlib.Omega.{arith}
use mathlib.Core.Path.{◌≡◌, refl, ◌∙◌}
use mathlib.Core.Bool.{Bool, true, false, cond}
use mathlib.Core.List.{List, [], ◌∷◌}
use lib.Dec.{eqb, leb}
use lib.ListN.{length, take, drop, set, length-append}
use lib.Seq.{take-set-le, drop-set-lt}
use borrow.Author.Tests.{eqb-true}
use Rattle.store.specs.Rows.{row_place, word_place, code, row_put_lem, word_put, row_at, rows_in, row_put_long}
use Rattle.store.specs.declared.stored.Stored.{Stored}
use Rattle.store.specs.declared.row.Row.{Row}
use Rattle.statecmds.specs.Words.{words_put}
use Rattle.store.specs.declared.state.State.{State}
use Rattle.store.specs.Added.{warning_counted}
use Rattle.made.specs.declared.Made.{Made}
use Rattle.made.specs.declared.Deed.{Deed}
use Rattle.made.specs.declared.Deed.TheVariants as deed
use Rattle.made.specs.Made.{full_made, warning_row, done_by}
use Rattle.deeds.specs.Deeds.{deed_put}
use Rattle.plain.specs.Stores.{row_stored}

-- ---- the row of a deed
put_by : (nums : List ℕ) (k : ℕ) (r : Row) → (b : Bool) → (b ≡ true → k + 1 ≡ k) → row_put_lem nums k r ≡ cond b nums (row_put_lem nums (k + 1 - 1) r)
put_by nums k r true h = absurd (omega (arith, h refl))
put_by nums k r false h = let e : k + 1 - 1 ≡ k = omega arith in rw e

abbrev warned : State → ℕ → Stored → Bool → Made
warned s kind name b = cond b (full_made s) (record { tag = 0; state = warning_counted s; row = warning_row kind name })

-- a row is counted, so that its kind is not 0
pub put_is : (nums : List ℕ) (s : State) (d : Deed) → ((done_by s d).row.kind ≡ 0 → (done_by s d).state.fill.rows ≡ s.fill.rows) → deed_put nums s.fill.rows s.fill.warnings d ≡ row_stored nums (done_by s d)
put_is nums s deed.Nothing h = refl
put_is nums s deed.Full h = refl
put_is nums s (deed.Warning kind name) h = go (leb 256 s.fill.warnings) h
  where
    go : (b : Bool) → ((warned s kind name b).row.kind ≡ 0 → (warned s kind name b).state.fill.rows ≡ s.fill.rows) → cond b nums (row_put_lem nums s.fill.rows (warning_row kind name)) ≡ row_stored nums (warned s kind name b)
    go true g = refl
    go false g = put_by nums s.fill.rows (warning_row kind name) (eqb kind 0) (λ q. g (eqb-true kind 0 q))
put_is nums s (deed.Row r) h = put_by nums s.fill.rows r (eqb r.kind 0) (λ q. h (eqb-true r.kind 0 q))
put_is nums s (deed.Variable a b) h = refl
put_is nums s (deed.Top t) h = refl
put_is nums s (deed.Domain x) h = refl
put_is nums s (deed.Supplied i x) h = refl
put_is nums s (deed.Net x) h = refl
put_is nums s (deed.Port x) h = refl
put_is nums s (deed.Isolation x) h = refl
put_is nums s (deed.Controlled i x) h = refl
put_is nums s (deed.Retention x) h = refl
put_is nums s (deed.Shifter x) h = refl
put_is nums s (deed.Table x) h = refl
put_is nums s (deed.Switch x e) h = refl
put_is nums s (deed.PortState x e) h = refl

-- ---- how many
pub rows_length : (nums : List ℕ) (k : ℕ) → length (rows_in nums k) ≡ k
unfolding rows_in
rows_length nums zero = refl
rows_length nums (suc k) = omega (arith, rows_length nums k, length-append (rows_in nums k) (row_at nums k ∷ []))

-- ---- what is kept of the numbers
five_front : (n : ℕ) (l : List ℕ) (i j k p q a b c d e : ℕ) → n ≤ i → n ≤ j → n ≤ k → n ≤ p → n ≤ q → take n (set (set (set (set (set l i a) j b) k c) p d) q e) ≡ take n l
five_front n l i j k p q a b c d e hi hj hk hp hq =
    take-set-le n (set (set (set (set l i a) j b) k c) p d) q e hq
    ∙ take-set-le n (set (set (set l i a) j b) k c) p d hp
    ∙ take-set-le n (set (set l i a) j b) k c hk
    ∙ take-set-le n (set l i a) j b hj
    ∙ take-set-le n l i a hi

five_back : (n : ℕ) (l : List ℕ) (i j k p q a b c d e : ℕ) → i < n → j < n → k < n → p < n → q < n → drop n (set (set (set (set (set l i a) j b) k c) p d) q e) ≡ drop n l
five_back n l i j k p q a b c d e hi hj hk hp hq =
    drop-set-lt n (set (set (set (set l i a) j b) k c) p d) q e hq
    ∙ drop-set-lt n (set (set (set l i a) j b) k c) p d hp
    ∙ drop-set-lt n (set (set l i a) j b) k c hk
    ∙ drop-set-lt n (set l i a) j b hj
    ∙ drop-set-lt n l i a hi

two_front : (n : ℕ) (l : List ℕ) (i j a b : ℕ) → n ≤ i → n ≤ j → take n (set (set l i a) j b) ≡ take n l
two_front n l i j a b hi hj = take-set-le n (set l i a) j b hj ∙ take-set-le n l i a hi

two_back : (n : ℕ) (l : List ℕ) (i j a b : ℕ) → i < n → j < n → drop n (set (set l i a) j b) ≡ drop n l
two_back n l i j a b hi hj = drop-set-lt n (set l i a) j b hj ∙ drop-set-lt n l i a hi

pub row_low : (l : List ℕ) (k : ℕ) (r : Row) → take 1472 (row_put_lem l k r) ≡ take 1472 l
row_low l k r =
    five_front 1472 l (row_place k) (row_place k + 1) (row_place k + 2) (row_place k + 3) (row_place k + 4) (code r) r.name.at r.name.len r.value.at r.value.len
    (omega arith) (omega arith) (omega arith) (omega arith) (omega arith)

pub row_high : (l : List ℕ) (k : ℕ) (r : Row) → k < 1024 → drop 14656 (row_put_lem l k r) ≡ drop 14656 l
row_high l k r h =
    five_back 14656 l (row_place k) (row_place k + 1) (row_place k + 2) (row_place k + 3) (row_place k + 4) (code r) r.name.at r.name.len r.value.at r.value.len
    (omega arith) (omega arith) (omega arith) (omega arith) (omega arith)

word_low : (l : List ℕ) (k : ℕ) (w : Stored) → take 1472 (word_put l k w) ≡ take 1472 l
word_low l k w = two_front 1472 l (word_place k) (word_place k + 1) w.at w.len (omega arith) (omega arith)

word_high : (l : List ℕ) (k : ℕ) (w : Stored) → k < 4032 → drop 14656 (word_put l k w) ≡ drop 14656 l
word_high l k w h = two_back 14656 l (word_place k) (word_place k + 1) w.at w.len (omega arith) (omega arith)

pub words_low : (l : List ℕ) (k : ℕ) (ws : List Stored) → take 1472 (words_put l k ws) ≡ take 1472 l
unfolding words_put
words_low l k [] = refl
words_low l k (w ∷ ws) = words_low (word_put l k w) (k + 1) ws ∙ word_low l k w

pub words_high : (l : List ℕ) (k : ℕ) (ws : List Stored) → k + length ws ≤ 4032 → drop 14656 (words_put l k ws) ≡ drop 14656 l
unfolding words_put
words_high l k [] h = refl
words_high l k (w ∷ ws) h = words_high (word_put l k w) (k + 1) ws (omega arith) ∙ word_high l k w (omega arith)

-- by whether there is a row
module _ (nums : List ℕ) (r : Made) where
  pub stored_long : length (row_stored nums r) ≡ length nums
  stored_long = go (eqb r.tag 0) (eqb r.row.kind 0)
    where
      go : (a b : Bool) → length (cond a (cond b nums (row_put_lem nums (r.state.fill.rows - 1) r.row)) nums) ≡ length nums
      go false b = refl
      go true true = refl
      go true false = row_put_long nums (r.state.fill.rows - 1) r.row

  pub stored_low : take 1472 (row_stored nums r) ≡ take 1472 nums
  stored_low = go (eqb r.tag 0) (eqb r.row.kind 0)
    where
      go : (a b : Bool) → take 1472 (cond a (cond b nums (row_put_lem nums (r.state.fill.rows - 1) r.row)) nums) ≡ take 1472 nums
      go false b = refl
      go true true = refl
      go true false = row_low nums (r.state.fill.rows - 1) r.row

  pub stored_high : r.state.fill.rows - 1 < 1024 → drop 14656 (row_stored nums r) ≡ drop 14656 nums
  stored_high h = go (eqb r.tag 0) (eqb r.row.kind 0)
    where
      go : (a b : Bool) → drop 14656 (cond a (cond b nums (row_put_lem nums (r.state.fill.rows - 1) r.row)) nums) ≡ drop 14656 nums
      go false b = refl
      go true true = refl
      go true false = row_high nums (r.state.fill.rows - 1) r.row h
