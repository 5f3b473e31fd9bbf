-- The words of a command's states, those with the first key or those with the second, and that they are few. Assumes nothing.
use Rattle.std.specs.Prelude.{ℕ, suc, ◌+◌, ◌*◌, ◌≤◌, ◌≡◌, refl, Bool, true, false, cond, not, ◌||◌, length}
use Rattle.std.proofs.Common.{arith, ap}
use mathlib.Core.List.{List, [], ◌∷◌, map, flat_map}
use Rattle.text.specs.Ascii.{Bytes}
use Rattle.text.specs.Compare.{same}
use Rattle.tcl.specs.Arguments.{State, is_key, states, states_from}
use Rattle.model.specs.Commands.{on_state, off_state, port_state_of}
use Rattle.store.specs.View.{on_of, named_of}

-- the values of the states that have the first key (`want`), or of those that have the second
unfoldable pub chosen : Bool → List State → List Bytes
chosen want [] = []
chosen want (s ∷ ss) = cond (cond want s.one (not s.one)) (s.value ∷ chosen want ss) (chosen want ss)

ons_by : (s : State) (ss : List State) (b : Bool) → s.one ≡ b → flat_map on_state ss ≡ map on_of (chosen true ss) → flat_map on_state (s ∷ ss) ≡ map on_of (chosen true (s ∷ ss))
unfolding flat_map chosen
ons_by s ss true p h = rw p (ap (λ l. on_of s.value ∷ l) h)
ons_by s ss false p h = rw p h

pub ons_are : (ss : List State) → flat_map on_state ss ≡ map on_of (chosen true ss)
unfolding flat_map chosen
ons_are [] = refl
ons_are (s ∷ ss) = ons_by s ss s.one refl (ons_are ss)

offs_by : (s : State) (ss : List State) (b : Bool) → s.one ≡ b → flat_map off_state ss ≡ map named_of (chosen false ss) → flat_map off_state (s ∷ ss) ≡ map named_of (chosen false (s ∷ ss))
unfolding flat_map chosen
offs_by s ss true p h = rw p h
offs_by s ss false p h = rw p (ap (λ l. named_of s.value ∷ l) h)

pub offs_are : (ss : List State) → flat_map off_state ss ≡ map named_of (chosen false ss)
unfolding flat_map chosen
offs_are [] = refl
offs_are (s ∷ ss) = offs_by s ss s.one refl (offs_are ss)

kinds_by : (s : State) (ss : List State) (b : Bool) → s.one ≡ b → length (chosen true ss) + length (chosen false ss) ≡ length ss → length (chosen true (s ∷ ss)) + length (chosen false (s ∷ ss)) ≡ suc (length ss)
unfolding chosen
kinds_by s ss true p h = rw p (omega arith)
kinds_by s ss false p h = rw p (omega arith)

pub both_kinds : (ss : List State) → length (chosen true ss) + length (chosen false ss) ≡ length ss
unfolding chosen
both_kinds [] = omega arith
both_kinds (s ∷ ss) = kinds_by s ss s.one refl (both_kinds ss)

-- where there is one key, every state has it
ports_by : (key w v : Bytes) (ws : List Bytes) (b : Bool) → same w key ≡ b → map port_state_of (states_from false key key ws) ≡ map named_of (chosen true (states_from false key key ws)) → map port_state_of (states_from false key key (v ∷ ws)) ≡ map named_of (chosen true (states_from false key key (v ∷ ws))) → map port_state_of (states_from false key key (w ∷ v ∷ ws)) ≡ map named_of (chosen true (states_from false key key (w ∷ v ∷ ws)))
unfolding states_from chosen
ports_by key w v ws true p h g = rw p (ap (λ l. named_of v ∷ l) h)
ports_by key w v ws false p h g = rw p g

pub ports_are : (key : Bytes) (ws : List Bytes) → map port_state_of (states key key ws) ≡ map named_of (chosen true (states key key ws))
unfolding states_from chosen
ports_are key [] = refl
ports_are key (w ∷ []) = refl
ports_are key (w ∷ v ∷ ws) = ports_by key w v ws (same w key) refl (ports_are key ws) (ports_are key (v ∷ ws))

-- a state takes two words
half_by : (one two w v : Bytes) (ws : List Bytes) (a b : Bool) → same w one ≡ a → same w two ≡ b → 2 * length (states_from false one two ws) ≤ length ws → 2 * length (states_from false one two (v ∷ ws)) ≤ suc (length ws) → 2 * length (states_from false one two (w ∷ v ∷ ws)) ≤ suc (suc (length ws))
unfolding states_from
half_by one two w v ws true b p q h g = rw p (omega arith)
half_by one two w v ws false true p q h g = rw (p, q) (omega arith)
half_by one two w v ws false false p q h g = rw (p, q) (omega arith)

pub states_half : (one two : Bytes) (ws : List Bytes) → 2 * length (states one two ws) ≤ length ws
unfolding states_from
states_half one two [] = omega arith
states_half one two (w ∷ []) = omega arith
states_half one two (w ∷ v ∷ ws) = half_by one two w v ws (same w one) (same w two) refl refl (states_half one two ws) (states_half one two (v ∷ ws))

-- a word that is no key begins no state
no_key : (one two w : Bytes) (ws : List Bytes) (a b : Bool) → same w one ≡ a → same w two ≡ b → a || b ≡ false → states_from false one two (w ∷ ws) ≡ states_from false one two ws
unfolding states_from
no_key one two w [] true b p q h = absurd (let z : ◌≡◌ {A = ℕ} 0 1 = cc in omega arith)
no_key one two w [] false true p q h = absurd (let z : ◌≡◌ {A = ℕ} 0 1 = cc in omega arith)
no_key one two w [] false false p q h = refl
no_key one two w (v ∷ ws) true b p q h = absurd (let z : ◌≡◌ {A = ℕ} 0 1 = cc in omega arith)
no_key one two w (v ∷ ws) false true p q h = absurd (let z : ◌≡◌ {A = ℕ} 0 1 = cc in omega arith)
no_key one two w (v ∷ ws) false false p q h = rw (p, q)

pub behind_name : (one two w : Bytes) (ws : List Bytes) → is_key one two w ≡ false → states one two (w ∷ ws) ≡ states one two ws
behind_name one two w ws h = no_key one two w ws (same w one) (same w two) refl refl h
