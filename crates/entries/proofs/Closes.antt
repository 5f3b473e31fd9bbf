-- Where a scan over a value whose lines are joined ends: what stands before it and behind it. Assumes nothing.
use Prim.Native.Nat.{ℕ, suc, ◌+◌, ◌-◌, ◌≤◌, ◌<◌, min}
use mathlib.Core.Path.{◌≡◌, refl, sym, ap, ◌∙◌}
use mathlib.Core.Bool.{Bool, true, false, cond}
use mathlib.Core.List.{[], ◌∷◌}
use native.Mathlib.Omega.{arith}
use native.Mathlib.Nat.{add-zero, min-eq_left, min-eq_right}
use lib.Dec.{eqb, leb}
use lib.ListN.{length, take, drop, get_or, length-drop}
use lib.Seq.{drop-drop, take_all}
use borrow.Author.Tests.{eq-eqb, eqb-true, leb-true, leb-false}
use Rattle.text.specs.Ascii.{Bytes, byte}
use Rattle.text.specs.Classes.{ends_plain}
use Rattle.text.specs.Scan.{before, up_to, Ends}
use Rattle.text.specs.Sames.{no_true}
use Rattle.tcl.specs.Join.{joint, joined_by, join}
use Rattle.tcl.specs.Words.{span, depth, quote_state, inside, quote_size}
use Rattle.tcl.specs.Machines.{span_le}
use Rattle.entries.specs.Raw.{raw, until, state_of, join_here, join_end, raw_drop, raw_take, raw_more}

-- ---- what the machines count

until_span : (next : ℕ → ℕ → ℕ) (p : ℕ → Bool) → ((d b : ℕ) → next d b ≡ until (p b)) → (d : ℕ) (t : Bytes) → span next d t ≡ before p t
unfolding span before until
until_span next p h d [] = refl
until_span next p h d (x ∷ xs) = rw (h d x, until_span next p h (until (p x)) xs) (go (p x))
  where
    go : (u : Bool) → cond (eqb (until u) 0) 0 (suc (before p xs)) ≡ cond u 0 (suc (before p xs))
    go true = refl
    go false = refl

pub comment_span : (t : Bytes) → span (state_of (byte "#")) 1 t ≡ up_to (byte "\n") t
unfolding state_of
comment_span t = until_span (state_of (byte "#")) (λ b. eqb b (byte "\n")) (λ d b. refl) 1 t

pub plain_span : (t : Bytes) → span (state_of (byte " ")) 1 t ≡ before ends_plain t
unfolding state_of
plain_span t = until_span (state_of (byte " ")) ends_plain (λ d b. refl) 1 t

pub brace_span : (t : Bytes) → span (state_of (byte "{")) 1 t ≡ inside (byte "{") (byte "}") t
unfolding state_of
brace_span t = refl

pub quote_span : (t : Bytes) → span (state_of (byte "\"")) 1 t ≡ quote_size t
unfolding state_of
quote_span t = refl

pub bracket_span : (t : Bytes) → span (state_of (byte "[")) 1 t ≡ inside (byte "[") (byte "]") t
unfolding state_of
bracket_span t = refl

-- ---- a space closes nothing

-- a machine that no space stops
abbrev pub Runs : (ℕ → ℕ → ℕ) → Type 0
Runs next = (d : ℕ) → 1 ≤ d → next d (byte " ") ≡ 0 → ⊥

pub brace_runs : Runs (state_of (byte "{"))
unfolding state_of depth
brace_runs d h e = omega arith

pub quote_runs : Runs (state_of (byte "\""))
unfolding state_of quote_state
quote_runs d h e = go (eqb d 2) e
  where
    go : (t : Bool) → ◌≡◌ {A = ℕ} (cond t 1 1) 0 → ⊥
    go true z = omega arith
    go false z = omega arith

pub bracket_runs : Runs (state_of (byte "["))
unfolding state_of depth
bracket_runs d h e = omega arith

-- so it stops at another byte
stop_byte : (next : ℕ → ℕ → ℕ) → Runs next → (d : ℕ) → 1 ≤ d → (t : Bytes) (y : ℕ) (ys : Bytes) → drop (span next d t) t ≡ y ∷ ys → y ≡ byte " " → ⊥
unfolding span
stop_byte next r d h [] y ys e z = absurd (let o : ◌≡◌ {A = ℕ} 0 1 = cc in omega arith)
stop_byte next r d h (x ∷ xs) y ys e z = go (eqb (next d x) 0) refl e (λ l g. stop_byte next r (next d x) l xs y ys g z)
  where
    go : (u : Bool) → eqb (next d x) 0 ≡ u → drop (cond u 0 (suc (span next (next d x) xs))) (x ∷ xs) ≡ y ∷ ys → (1 ≤ next d x → drop (span next (next d x) xs) xs ≡ y ∷ ys → ⊥) → ⊥
    go true q g ih =
        let k : x ≡ byte " " = cc in
        let l : next d x ≡ 0 = eqb-true (next d x) 0 q in
        r d h (rw k at l)
    go false q g ih =
        let n : next d x ≡ 0 → ⊥ = λ l. no_true (sym (rw q at (sym (eq-eqb (next d x) 0 l)))) in
        ih (omega (arith, n)) g

-- ---- the end of a scan that began at a

module _ (next : ℕ → ℕ → ℕ) (v : Bytes) (a e : ℕ) (w : Ends (a + raw (span next 1 (join (drop a v))) (drop a v)) (length v) e) where
  pub front_is : join (take (e - a) (drop a v)) ≡ take (span next 1 (join (drop a v))) (join (drop a v))
  front_is =
      let q : e - a ≡ raw (span next 1 (join (drop a v))) (drop a v) = omega (arith, w.is_at) in
      ap (λ (n : ℕ). join (take n (drop a v))) q ∙ raw_take (span next 1 (join (drop a v))) (drop a v) (span_le next 1 (join (drop a v)))

  pub back_is : join (drop e v) ≡ drop (span next 1 (join (drop a v))) (join (drop a v))
  back_is =
      ap (λ (n : ℕ). join (drop n v)) w.is_at ∙ sym (ap (λ (t : Bytes). join t) (drop-drop (raw (span next 1 (join (drop a v))) (drop a v)) a v)) ∙ raw_drop (span next 1 (join (drop a v))) (drop a v) (span_le next 1 (join (drop a v)))

  -- at the end nothing is left
  pub none_left : length v ≤ e → length (join (drop a v)) ≤ span next 1 (join (drop a v))
  none_left h =
      let q : [] ≡ drop (span next 1 (join (drop a v))) (join (drop a v)) = sym (join_end v e h) ∙ back_is in
      omega (arith, ap length q, length-drop (span next 1 (join (drop a v))) (join (drop a v)))

  module _ (h : e < length v) where
    some_left : span next 1 (join (drop a v)) < length (join (drop a v))
    some_left =
        let q : joined_by (joint (drop e v)) (get_or v e 0) ∷ join (drop (e + 1 + joint (drop e v)) v) ≡ drop (span next 1 (join (drop a v))) (join (drop a v)) = sym (join_here v e (joint (drop e v)) (joined_by (joint (drop e v)) (get_or v e 0)) refl refl h) ∙ back_is in
        omega (arith, ap length q, length-drop (span next 1 (join (drop a v))) (join (drop a v)))

    -- the byte that ends it is no continuation
    no_joint : Runs next → joint (drop e v) ≡ 0
    unfolding joined_by
    no_joint r = go (eqb (joint (drop e v)) 0) refl
      where
        go : (u : Bool) → eqb (joint (drop e v)) 0 ≡ u → joint (drop e v) ≡ 0
        go true q = eqb-true (joint (drop e v)) 0 q
        go false q =
            let k : join (drop e v) ≡ joined_by (joint (drop e v)) (get_or v e 0) ∷ join (drop (e + 1 + joint (drop e v)) v) = join_here v e (joint (drop e v)) (joined_by (joint (drop e v)) (get_or v e 0)) refl refl h in
            absurd (stop_byte next r 1 (omega arith) (join (drop a v)) (joined_by (joint (drop e v)) (get_or v e 0)) (join (drop (e + 1 + joint (drop e v)) v)) (sym back_is ∙ k) (rw q))

  -- behind the byte that closes it
  pub behind_is : Runs next → join (drop (e + 1) v) ≡ drop (span next 1 (join (drop a v)) + 1) (join (drop a v))
  behind_is r = go (leb (length v) e) refl
    where
      two : drop 1 (join (drop e v)) ≡ drop (span next 1 (join (drop a v)) + 1) (join (drop a v))
      two = ap (λ (t : Bytes). drop 1 t) back_is ∙ drop-drop 1 (span next 1 (join (drop a v))) (join (drop a v))

      go : (u : Bool) → leb (length v) e ≡ u → join (drop (e + 1) v) ≡ drop (span next 1 (join (drop a v)) + 1) (join (drop a v))
      go true q =
          let h : length v ≤ e = leb-true (length v) e q in
          let g : length v ≤ e + 1 = omega arith in
          let n : join (drop e v) ≡ [] = join_end v e h in
          join_end v (e + 1) g ∙ sym (ap (λ (t : Bytes). drop 1 t) n) ∙ two
      go false q =
          let h : e < length v = leb-false (length v) e q in
          let k : join (drop e v) ≡ joined_by 0 (get_or v e 0) ∷ join (drop (e + 1 + 0) v) = join_here v e 0 (joined_by 0 (get_or v e 0)) (sym (no_joint h r)) refl h in
          let z : join (drop e v) ≡ joined_by 0 (get_or v e 0) ∷ join (drop (e + 1) v) = k ∙ rw (add-zero (e + 1)) in
          sym (ap (λ (t : Bytes). drop 1 t) z) ∙ two

-- ---- with the byte before it, which is a piece of its own

module _ (next : ℕ → ℕ → ℕ) (v : Bytes) (i e b : ℕ) (w : Ends (i + 1 + raw (span next 1 (join (drop (i + 1) v))) (drop (i + 1) v)) (length v) e)
    (n : joint (drop i v) ≡ 0) (k : join (drop i v) ≡ b ∷ join (drop (i + 1) v)) where
  rest : drop (suc (joint (drop i v))) (drop i v) ≡ drop (i + 1) v
  rest = ap (λ (m : ℕ). drop (suc m) (drop i v)) n ∙ drop-drop 1 i v

  raw_one : (m : ℕ) → raw (suc m) (drop i v) ≡ suc (raw m (drop (i + 1) v))
  unfolding raw
  raw_one m = rw (rest, n) (omega arith)

  pub with_first : join (take (e - i) (drop i v)) ≡ b ∷ take (span next 1 (join (drop (i + 1) v))) (join (drop (i + 1) v))
  with_first =
      let m : ℕ = span next 1 (join (drop (i + 1) v)) in
      let q : e - i ≡ raw (suc m) (drop i v) = omega (arith, w.is_at, raw_one m) in
      let l : suc m ≤ length (join (drop i v)) = omega (arith, ap length k, span_le next 1 (join (drop (i + 1) v))) in
      ap (λ (z : ℕ). join (take z (drop i v))) q ∙ raw_take (suc m) (drop i v) l ∙ rw k

  pub with_both : Runs next → join (take (min (e + 1) (length v) - i) (drop i v)) ≡ take (span next 1 (join (drop (i + 1) v)) + 2) (b ∷ join (drop (i + 1) v))
  with_both r = go (leb (length v) e) refl
    where
      go : (u : Bool) → leb (length v) e ≡ u → join (take (min (e + 1) (length v) - i) (drop i v)) ≡ take (span next 1 (join (drop (i + 1) v)) + 2) (b ∷ join (drop (i + 1) v))
      go true z =
          let h : length v ≤ e = leb-true (length v) e z in
          let g : length v ≤ e + 1 = omega arith in
          let q : min (e + 1) (length v) ≡ length v = min-eq_right g in
          let l : length (drop i v) ≤ length v - i = omega (arith, length-drop i v) in
          let o : length (b ∷ join (drop (i + 1) v)) ≤ span next 1 (join (drop (i + 1) v)) + 2 = omega (arith, none_left next v (i + 1) e w h) in
          ap (λ (x : ℕ). join (take (x - i) (drop i v))) q ∙ ap (λ (t : Bytes). join t) (take_all (length v - i) (drop i v) l) ∙ k ∙ sym (take_all (span next 1 (join (drop (i + 1) v)) + 2) (b ∷ join (drop (i + 1) v)) o)
      go false z =
          let h : e < length v = leb-false (length v) e z in
          let m : ℕ = span next 1 (join (drop (i + 1) v)) in
          let g : e + 1 ≤ length v = omega arith in
          let q : min (e + 1) (length v) ≡ e + 1 = min-eq_left g in
          let d : drop (raw m (drop (i + 1) v)) (drop (i + 1) v) ≡ drop e v = drop-drop (raw m (drop (i + 1) v)) (i + 1) v ∙ ap (λ (x : ℕ). drop x v) (sym w.is_at) in
          let j : joint (drop (raw m (drop (i + 1) v)) (drop (i + 1) v)) ≡ 0 = ap (λ (t : Bytes). joint t) d ∙ no_joint next v (i + 1) e w h r in
          let x : e + 1 - i ≡ raw (suc (suc m)) (drop i v) = omega (arith, w.is_at, raw_one (suc m), raw_more m (drop (i + 1) v), j) in
          let y : m + 2 ≡ suc (suc m) = omega arith in
          let l : suc (suc m) ≤ length (join (drop i v)) = omega (arith, ap length k, some_left next v (i + 1) e w h) in
          ap (λ (t : ℕ). join (take (t - i) (drop i v))) q ∙ ap (λ (t : ℕ). join (take t (drop i v))) x ∙ raw_take (suc (suc m)) (drop i v) l ∙ rw (k, y)
