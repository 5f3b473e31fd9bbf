-- The words of a switch's states in the store, and a switch by its own words alone. Assumes nothing.
use Rattle.std.specs.Prelude.{ℕ, zero, suc, ◌+◌, ◌-◌, ◌≤◌, ◌≡◌, refl, List, [], ◌∷◌, ◌++◌, map, length, take, drop}
use Rattle.std.proofs.Common.{arith, add-zero, sym, ap, ap₂, ◌∙◌, append_assoc, append-nil, length-append, take_at, drop_at}
use Rattle.text.specs.Ascii.{Bytes}
use Rattle.model.specs.Records.{OnState, Switch as Switchʳ}
use Rattle.store.specs.Strings.{string}
use Rattle.store.specs.View.{on_of, switch_of}
use Rattle.store.specs.Order.{Within, none_left, one_more, switch_words}
use Rattle.store.specs.Rows.{word_at, words_in}
use Rattle.store.specs.declared.stored.Stored.{Stored}
use Rattle.store.specs.declared.state.Switch.{Switch}

-- n words from word k on
unfoldable pub words_from : List ℕ → ℕ → ℕ → List Stored
words_from nums k zero = []
words_from nums k (suc n) = word_at nums k ∷ words_from nums (k + 1) n

-- the on-states that they are
abbrev pub ons_from : Bytes → List ℕ → ℕ → ℕ → List OnState
ons_from mem nums k n = map on_of (map (string mem) (words_from nums k n))

-- a switch with as many words of the store as are its own and before
abbrev pub switch_in : Bytes → List ℕ → Switch → Switchʳ
switch_in mem nums w = switch_of mem (words_in nums (switch_words w)) w

-- ---- laws

-- the first on-state, or none
pub ons_cons : (mem : Bytes) (nums : List ℕ) (k n : ℕ) → ons_from mem nums k (suc n) ≡ on_of (string mem (word_at nums k)) ∷ ons_from mem nums (k + 1) n
unfolding words_from
ons_cons mem nums k n = refl

pub ons_none : (mem : Bytes) (nums : List ℕ) (k : ℕ) → ons_from mem nums k 0 ≡ []
unfolding words_from
ons_none mem nums k = refl

words_last : (nums : List ℕ) (k n : ℕ) → words_from nums k (suc n) ≡ words_from nums k n ++ (word_at nums (k + n) ∷ [])
unfolding words_from
words_last nums k zero = let e : k + 0 ≡ k = add-zero k in rw e
words_last nums k (suc n) = let e : k + 1 + n ≡ k + suc n = omega arith in ap (λ (l : List Stored). word_at nums k ∷ l) (words_last nums (k + 1) n ∙ rw e)

words_long : (nums : List ℕ) (k n : ℕ) → length (words_from nums k n) ≡ n
unfolding words_from
words_long nums k zero = refl
words_long nums k (suc n) = ap suc (words_long nums (k + 1) n)

words_size : (nums : List ℕ) (n : ℕ) → length (words_in nums n) ≡ n
unfolding words_in
words_size nums zero = refl
words_size nums (suc n) = omega (arith, length-append (words_in nums n) (word_at nums n ∷ []), words_size nums n)

-- the words up to a, and those behind
words_two : (nums : List ℕ) (a b : ℕ) → words_in nums (a + b) ≡ words_in nums a ++ words_from nums a b
unfolding words_in words_from
words_two nums a zero = let e : a + 0 ≡ a = add-zero a in rw e (sym (append-nil (words_in nums a)))
words_two nums a (suc b) =
    let e : a + suc b ≡ suc (a + b) = omega arith in
    rw e (ap (λ (l : List Stored). l ++ (word_at nums (a + b) ∷ [])) (words_two nums a b) ∙ append_assoc (words_in nums a) (words_from nums a b) (word_at nums (a + b) ∷ []) ∙ ap (λ (l : List Stored). words_in nums a ++ l) (sym (words_last nums a b)))

words_on : (nums : List ℕ) (k a b : ℕ) → words_from nums k (a + b) ≡ words_from nums k a ++ words_from nums (k + a) b
unfolding words_from
words_on nums k zero b = let e : k + 0 ≡ k = add-zero k in let z : 0 + b ≡ b = omega arith in rw (e, z)
words_on nums k (suc a) b =
    let z : suc a + b ≡ suc (a + b) = omega arith in
    let e : k + 1 + a ≡ k + suc a = omega arith in
    rw z (ap (λ (l : List Stored). word_at nums k ∷ l) (words_on nums (k + 1) a b ∙ rw e))

pub words_part : (nums : List ℕ) (m k n : ℕ) → k + n ≤ m → take n (drop k (words_in nums m)) ≡ words_from nums k n
words_part nums m k n h =
    let e : m ≡ k + (n + (m - (k + n))) = omega arith in
    ap (λ (j : ℕ). take n (drop k (words_in nums j))) e
    ∙ ap (λ (l : List Stored). take n (drop k l)) (words_two nums k (n + (m - (k + n))))
    ∙ ap (take n) (drop_at (words_in nums k) (words_from nums k (n + (m - (k + n)))) k (words_size nums k))
    ∙ ap (take n) (words_on nums k n (m - (k + n)))
    ∙ take_at (words_from nums k n) (words_from nums (k + n) (m - (k + n))) n (words_long nums k n)

pub ons_are : (mem : Bytes) (nums : List ℕ) (w : Switch) → (switch_in mem nums w).on_states ≡ ons_from mem nums w.first w.ons
unfolding switch_of
ons_are mem nums w = ap (λ (l : List Stored). map on_of (map (string mem) l)) (words_part nums (switch_words w) w.first w.ons (omega arith))

pub switch_in_lem : (mem : Bytes) (nums : List ℕ) (m : ℕ) (w : Switch) → switch_words w ≤ m → switch_of mem (words_in nums m) w ≡ switch_in mem nums w
unfolding switch_of
switch_in_lem mem nums m w h =
    let a : take w.ons (drop w.first (words_in nums m)) ≡ take w.ons (drop w.first (words_in nums (switch_words w))) = words_part nums m w.first w.ons (omega arith) ∙ sym (words_part nums (switch_words w) w.first w.ons (omega arith)) in
    let b : take w.offs (drop (w.first + w.ons) (words_in nums m)) ≡ take w.offs (drop (w.first + w.ons) (words_in nums (switch_words w))) = words_part nums m (w.first + w.ons) w.offs h ∙ sym (words_part nums (switch_words w) (w.first + w.ons) w.offs (omega arith)) in
    rw (a, b)

pub switches_in : (mem : Bytes) (nums : List ℕ) (m : ℕ) (ws : List Switch) → Within switch_words m ws → map (switch_of mem (words_in nums m)) ws ≡ map (switch_in mem nums) ws
switches_in mem nums m [] none_left = refl
switches_in mem nums m (w ∷ ws) (one_more h b) = ap₂ ◌∷◌ (switch_in_lem mem nums m w h) (switches_in mem nums m ws b)
