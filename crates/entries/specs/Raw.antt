-- A value whose lines are joined as it is read: where its joined bytes lie. Laws for every scan of it. Assumes nothing.
use Rattle.std.specs.Prelude.{ℕ, zero, suc, ◌+◌, ◌-◌, ◌≤◌, ◌<◌, ◌≡◌, refl, Bool, true, false, cond, ◌&&◌, [], ◌∷◌, ◌++◌, eqb, length, take, drop, get_or}
use Rattle.std.proofs.Common.{sym, ap, ◌∙◌, arith, drop-drop}
use Rattle.text.specs.Ascii.{Bytes, byte}
use Rattle.text.specs.Classes.{ends_plain}
use Rattle.text.specs.Lists.{head_is, drop_take}
use Rattle.tcl.specs.Rewrites.{rewrite_skip, rewrite_step, rewrite_end}
use Rattle.tcl.specs.Rewrite.{rewrite}
use Rattle.tcl.specs.Join.{joint_by, joint, joined_by, joined, join}
use Rattle.tcl.specs.Words.{depth, quote_state}

-- how many bytes the first k joined bytes of a text take in it
unfoldable pub raw : ℕ → Bytes → ℕ
raw zero s = 0
raw (suc k) s = suc (joint s + raw k (drop (suc (joint s)) s))

-- 1 as long as what ends it is not there
unfoldable pub until : Bool → ℕ
until stop = cond stop 0 1

-- the state behind the byte b of what began with k: a word in braces, quotes or brackets, a comment, any other word; 0 where it ends
unfoldable pub state_of : ℕ → ℕ → ℕ → ℕ
state_of k d b =
    cond (eqb k (byte "{")) (depth (byte "{") (byte "}") d b)
    (cond (eqb k (byte "\"")) (quote_state d b)
    (cond (eqb k (byte "[")) (depth (byte "[") (byte "]") d b)
    (cond (eqb k (byte "#")) (until (eqb b (byte "\n")))
    (until (ends_plain b)))))

-- ---- the first joined byte

pub join_first : (x : ℕ) (xs : Bytes) → join (x ∷ xs) ≡ joined_by (joint (x ∷ xs)) x ∷ join (drop (joint (x ∷ xs)) xs)
unfolding rewrite
join_first x xs = rw (rewrite_skip joint joined (joint (x ∷ xs)) xs)

module _ (v : Bytes) (i : ℕ) where
  pub join_here : (n b : ℕ) → n ≡ joint (drop i v) → b ≡ joined_by n (get_or v i 0) → i < length v → join (drop i v) ≡ b ∷ join (drop (i + 1 + n) v)
  join_here n b e g h =
      let q : joined (drop i v) ≡ b ∷ [] = cc (head_is v i) in
      rewrite_step joint joined v i n h e ∙ ap (λ (t : Bytes). t ++ join (drop (i + 1 + n) v)) q

  pub join_end : length v ≤ i → join (drop i v) ≡ []
  join_end h = rewrite_end joint joined v i h

-- ---- a cut between two pieces

-- a piece that is left whole is the same piece
joint_cut : (x : ℕ) (xs : Bytes) (m : ℕ) → joint (x ∷ xs) ≤ m → joint (x ∷ take m xs) ≡ joint (x ∷ xs)
unfolding joint_by
joint_cut x [] zero h = refl
joint_cut x [] (suc m) h = refl
joint_cut x (y ∷ []) zero h = go (eqb x (byte "\\")) (eqb y (byte "\n")) (eqb y (byte "\r")) h
  where
    go : (a b c : Bool) → cond (a && b) 1 (cond (a && (c && false)) 2 0) ≤ 0 → ◌≡◌ {A = ℕ} (cond (a && false) 1 (cond (a && (false && false)) 2 0)) (cond (a && b) 1 (cond (a && (c && false)) 2 0))
    go true true c l = absurd (omega arith)
    go true false true l = refl
    go true false false l = refl
    go false b c l = refl
joint_cut x (y ∷ []) (suc zero) h = refl
joint_cut x (y ∷ []) (suc (suc m)) h = refl
joint_cut x (y ∷ z ∷ xs) zero h = go (eqb x (byte "\\")) (eqb y (byte "\n")) (eqb y (byte "\r")) (eqb z (byte "\n")) h
  where
    go : (a b c d : Bool) → cond (a && b) 1 (cond (a && (c && d)) 2 0) ≤ 0 → ◌≡◌ {A = ℕ} (cond (a && false) 1 (cond (a && (false && false)) 2 0)) (cond (a && b) 1 (cond (a && (c && d)) 2 0))
    go true true c d l = absurd (omega arith)
    go true false true true l = absurd (omega arith)
    go true false true false l = refl
    go true false false d l = refl
    go false b c d l = refl
joint_cut x (y ∷ z ∷ xs) (suc zero) h = go (eqb x (byte "\\")) (eqb y (byte "\n")) (eqb y (byte "\r")) (eqb z (byte "\n")) h
  where
    go : (a b c d : Bool) → cond (a && b) 1 (cond (a && (c && d)) 2 0) ≤ 1 → ◌≡◌ {A = ℕ} (cond (a && b) 1 (cond (a && (c && false)) 2 0)) (cond (a && b) 1 (cond (a && (c && d)) 2 0))
    go true true c d l = refl
    go true false true true l = absurd (omega arith)
    go true false true false l = refl
    go true false false d l = refl
    go false b c d l = refl
joint_cut x (y ∷ z ∷ xs) (suc (suc m)) h = refl

cut_first : (x : ℕ) (xs : Bytes) (m : ℕ) → joint (x ∷ xs) ≤ m → join (x ∷ take m xs) ≡ joined_by (joint (x ∷ xs)) x ∷ join (drop (joint (x ∷ xs)) (take m xs))
cut_first x xs m h = join_first x (take m xs) ∙ ap (λ (n : ℕ). joined_by n x ∷ join (drop n (take m xs))) (joint_cut x xs m h)

-- ---- where the k-th joined byte lies

some_first : (k x : ℕ) (xs : Bytes) → suc k ≤ length (join (x ∷ xs)) → k ≤ length (join (drop (joint (x ∷ xs)) xs))
some_first k x xs h = let e : length (join (x ∷ xs)) ≡ suc (length (join (drop (joint (x ∷ xs)) xs))) = ap length (join_first x xs) in omega arith

no_first : (k : ℕ) → suc k ≤ length (join []) → ⊥
unfolding rewrite
no_first k h = omega arith

-- what stands from there on is what is left
pub raw_drop : (k : ℕ) (s : Bytes) → k ≤ length (join s) → join (drop (raw k s) s) ≡ drop k (join s)
unfolding raw
raw_drop zero s h = refl
raw_drop (suc k) [] h = absurd (no_first k h)
raw_drop (suc k) (x ∷ xs) h =
    rw (join_first x xs, ← (drop-drop (raw k (drop (joint (x ∷ xs)) xs)) (joint (x ∷ xs)) xs)) (raw_drop k (drop (joint (x ∷ xs)) xs) (some_first k x xs h))

-- and what stands before it is what comes before
pub raw_take : (k : ℕ) (s : Bytes) → k ≤ length (join s) → join (take (raw k s) s) ≡ take k (join s)
unfolding raw rewrite
raw_take zero s h = refl
raw_take (suc k) [] h = absurd (no_first k h)
raw_take (suc k) (x ∷ xs) h =
    let j : ℕ = joint (x ∷ xs) in
    let r : ℕ = raw k (drop j xs) in
    let q : j + r - j ≡ r = omega arith in
    let c : drop j (take (j + r) xs) ≡ take r (drop j xs) = drop_take j (j + r) xs ∙ ap (λ (n : ℕ). take n (drop j xs)) q in
    cut_first x xs (j + r) (omega arith) ∙ ap (λ (t : Bytes). joined_by j x ∷ t) (ap (λ (t : Bytes). join t) c ∙ raw_take k (drop j xs) (some_first k x xs h)) ∙ sym (ap (λ (t : Bytes). take (suc k) t) (join_first x xs))

pub raw_more : (k : ℕ) (s : Bytes) → raw (suc k) s ≡ raw k s + (1 + joint (drop (raw k s) s))
unfolding raw
raw_more zero s = omega arith
raw_more (suc k) s =
    let d : drop (raw k (drop (suc (joint s)) s)) (drop (suc (joint s)) s) ≡ drop (suc (joint s) + raw k (drop (suc (joint s)) s)) s = drop-drop (raw k (drop (suc (joint s)) s)) (suc (joint s)) s in
    let q : suc (joint s) + raw k (drop (suc (joint s)) s) ≡ suc (joint s + raw k (drop (suc (joint s)) s)) = omega arith in
    rw (raw_more k (drop (suc (joint s)) s), d, q) (omega arith)
