-- Putting the words of states one after the other; laws as the needs ask them. Assumes nothing.
use Rattle.std.specs.Prelude.{Option}
use Rattle.std.specs.Prelude.{ℕ, suc, ◌+◌, ◌-◌, ◌≤◌, ◌<◌, ◌^◌, ◌≡◌, refl, Bool, true, false, cond, not, length, drop, None, Some}
use Rattle.std.proofs.Common.{arith, add-zero, ◌∙◌, length-append, drop_of_length-le}
use Rattle.std.proofs.Math.Path.{sym, ap}
use mathlib.Core.List.{List, [], ◌∷◌, ◌++◌, map, append_assoc, append-nil, map-append}
use Rattle.std.proofs.lemmas.List.{length-map}
use Rattle.text.specs.Ascii.{Bytes}
use Rattle.spans.specs.Span.{◌⋯◌, bytes, pairs, strings}
use Rattle.spans.specs.Reach.{span_end, last_of}
use Rattle.spans.specs.declared.span.Span.{Span}
use Rattle.tcl.specs.Arguments.{State, states}
use Rattle.args.specs.View.{pick, States}
use Rattle.store.specs.Strings.{string, span_of, stored_of}
use Rattle.store.specs.Order.{Within, none_left}
use Rattle.store.specs.Rows.{word_put}
use Rattle.store.specs.Tables.{within_snoc}
use Rattle.store.specs.declared.stored.Stored.{Stored}
use Rattle.lists.specs.States.{pick_none, pick_some, pick_in, states_short, strings_length}
use Rattle.statecmds.specs.Words.{words_put, words_long, words_push}
use Rattle.statecmds.specs.Chosen.{chosen}
use Rattle.statecmds.specs.Stated.{Puts}

-- the words can be stored, and there is room for them up to `last`
pub record PutRoom (words : List ℕ) (n : ℕ) (nums : List ℕ) (last : ℕ) : Type 0 where
  pub line : last_of span_end (pairs words 0 n) < 2 ^ 32
  pub long : 16384 ≤ length nums
  pub room : last ≤ 4032

-- the words of a switch stand in this order
pub record SwitchRoom (words : List ℕ) (n first mid end : ℕ) : Type 0 where
  pub line : last_of span_end (pairs words 0 n) < 2 ^ 32
  pub begins : first ≤ mid
  pub goes_on : mid ≤ end
  pub last : end ≤ 4032

-- ---- the loop: k states are passed, and those of them that are wanted are put
pub record Putting (mem : Bytes) (words : List ℕ) (n : ℕ) (ss : List State) (want : Bool) (nums₀ : List ℕ) (at : ℕ) (nums : List ℕ) (k o : ℕ) : Type 0 where
  pub put : List Stored
  pub becomes : nums ≡ words_put nums₀ at put
  pub ends : o ≡ at + length put
  pub is : map (string mem) put ++ chosen want (drop k ss) ≡ chosen want ss
  pub within : (e : Span → ℕ) → e (0 ⋯ 0) ≡ 0 → Within (λ s. e (span_of s)) (last_of e (pairs words 0 n)) put
  pub short : length ss ≤ n

pub putting_start : (mem : Bytes) (words : List ℕ) (n : ℕ) (one two : Bytes) (want : Bool) (nums : List ℕ) (at : ℕ) → Putting mem words n (states one two (strings mem words 0 n)) want nums at nums 0 at
unfolding words_put
putting_start mem words n one two want nums at =
    record { put = []; becomes = refl; ends = sym (add-zero at); is = refl; within = λ e z. none_left; short = omega (arith, states_short one two (strings mem words 0 n), strings_length mem words 0 n) }

-- a state that is of the kind that is wanted, and one that is not
is_wanted : (want one : Bool) → one ≡ want → cond want one (not one) ≡ true
is_wanted true true e = refl
is_wanted true false e = e
is_wanted false true e = sym e
is_wanted false false e = refl

not_wanted : (want one : Bool) → (one ≡ want → ⊥) → cond want one (not one) ≡ false
not_wanted true true e = absurd (e refl)
not_wanted true false e = refl
not_wanted false true e = refl
not_wanted false false e = absurd (e refl)

-- no state is left behind the last word
pub putting_done : (mem : Bytes) (words : List ℕ) (n : ℕ) (ss : List State) (want : Bool) (nums₀ : List ℕ) (at : ℕ) (nums : List ℕ) (k o : ℕ) → Putting mem words n ss want nums₀ at nums k o → n ≤ k → Puts mem words n (chosen want ss) nums₀ nums at o
unfolding chosen
putting_done mem words n ss want nums₀ at nums k o inv h =
    let q : chosen want (drop k ss) ≡ [] = rw (drop_of_length-le ss {i = k} (omega (arith, inv.short, h))) in
    record { put = inv.put; becomes = inv.becomes; ends = inv.ends; is = sym (append-nil (map (string mem) inv.put)) ∙ ap (λ (l : List Bytes). map (string mem) inv.put ++ l) (sym q) ∙ inv.is; within = inv.within }

module _ (mem : Bytes) (words : List ℕ) (n : ℕ) (ss : List State) (want : Bool) (nums₀ : List ℕ) (at : ℕ) (nums : List ℕ) (k o : ℕ) (inv : Putting mem words n ss want nums₀ at nums k o) (r : Option (Bool × Span)) (a : States mem words n (pick k ss) r) where
  pub putting_end : r ≡ None → Puts mem words n (chosen want ss) nums₀ nums at o
  unfolding chosen
  putting_end g =
      let z : None ≡ pick k ss = rw g at a.is in
      let q : chosen want (drop k ss) ≡ [] = rw (pick_none k ss z) in
      record { put = inv.put; becomes = inv.becomes; ends = inv.ends; is = sym (append-nil (map (string mem) inv.put)) ∙ ap (λ (l : List Bytes). map (string mem) inv.put ++ l) (sym q) ∙ inv.is; within = inv.within }

  pub putting_long : length nums ≡ length nums₀
  putting_long = ap length inv.becomes ∙ words_long nums₀ at inv.put

  pub putting_big : 16384 ≤ length nums₀ → 16384 ≤ length nums
  putting_big h = omega (arith, putting_long)

  module _ (one : Bool) (v : Span) (g : r ≡ Some (one, v)) where
    abbrev this : State
    this = record { one = one; value = bytes mem v }

    its : Some this ≡ pick k ss
    its = rw g at a.is

    here : chosen want (drop k ss) ≡ cond (cond want one (not one)) (bytes mem v ∷ chosen want (drop (k + 1) ss)) (chosen want (drop (k + 1) ss))
    unfolding chosen
    here = ap (chosen want) (pick_some k ss this its)

    -- one state further is a number yet
    pub putting_next : n < 2 ^ 64 → k + 1 < 2 ^ 64
    putting_next h = omega (arith, pick_in k ss this its, inv.short)

    -- behind it fewer states are left
    pub putting_less : length ss - (k + 1) < length ss - k
    putting_less = omega (arith, pick_in k ss this its)

    pub putting_fits : last_of span_end (pairs words 0 n) < 2 ^ 32 → v.at + v.len < 2 ^ 32
    putting_fits h = omega (arith, rw g at (a.within span_end refl))

    pub putting_past : (one ≡ want → ⊥) → Putting mem words n ss want nums₀ at nums (k + 1) o
    putting_past t =
        let q : chosen want (drop k ss) ≡ chosen want (drop (k + 1) ss) = here ∙ rw (not_wanted want one t) in
        record { put = inv.put; becomes = inv.becomes; ends = inv.ends; is = ap (λ (l : List Bytes). map (string mem) inv.put ++ l) (sym q) ∙ inv.is; within = inv.within; short = inv.short }

    module _ (t : one ≡ want) where
      wanted_here : chosen want (drop k ss) ≡ bytes mem v ∷ chosen want (drop (k + 1) ss)
      wanted_here = here ∙ rw (is_wanted want one t)

      counted : length inv.put + suc (length (chosen want (drop (k + 1) ss))) ≡ length (chosen want ss)
      counted =
          let x : length (map (string mem) inv.put ++ chosen want (drop k ss)) ≡ length (chosen want ss) = ap length inv.is in
          let y : length (chosen want (drop k ss)) ≡ suc (length (chosen want (drop (k + 1) ss))) = ap length wanted_here in
          omega (arith, x, y, length-append (map (string mem) inv.put) (chosen want (drop k ss)), length-map inv.put (string mem))

      pub putting_place : at + length (chosen want ss) ≤ 4032 → o < 4032
      putting_place h = omega (arith, counted, inv.ends)

      pub putting_more : at + length (chosen want ss) ≤ 4032 → o + 1 < 2 ^ 64
      putting_more h = omega (arith, putting_place h)

      pub putting_on : (w : Stored) (nums' : List ℕ) → w ≡ stored_of v → nums' ≡ word_put nums o w → Putting mem words n ss want nums₀ at nums' (k + 1) (o + 1)
      putting_on w nums' ew en =
          record {
            put = inv.put ++ (w ∷ []);
            becomes = en ∙ ap (λ (l : List ℕ). word_put l o w) inv.becomes ∙ ap (λ (j : ℕ). word_put (words_put nums₀ at inv.put) j w) inv.ends ∙ words_push nums₀ at inv.put w;
            ends = omega (arith, inv.ends, length-append inv.put (w ∷ []));
            is =
                let m : map (string mem) (inv.put ++ (w ∷ [])) ≡ map (string mem) inv.put ++ (bytes mem v ∷ []) = map-append (string mem) inv.put (w ∷ []) ∙ rw ew in
                ap (λ (l : List Bytes). l ++ chosen want (drop (k + 1) ss)) m ∙ append_assoc (map (string mem) inv.put) (bytes mem v ∷ []) (chosen want (drop (k + 1) ss)) ∙ ap (λ (l : List Bytes). map (string mem) inv.put ++ l) (sym wanted_here) ∙ inv.is;
            within = λ d z. within_snoc (λ s. d (span_of s)) w (inv.within d z) (rw ew (rw g at (a.within d z)));
            short = inv.short;
          }

-- ---- the numbers of a switch
module _ (words : List ℕ) (n first mid end : ℕ) (m : SwitchRoom words n first mid end) where
  pub first_fits : first < 2 ^ 32
  first_fits = omega (arith, m.begins, m.goes_on, m.last)

  pub ons_fits : mid - first < 2 ^ 32
  ons_fits = omega (arith, m.begins, m.goes_on, m.last)

  pub offs_fits : end - mid < 2 ^ 32
  offs_fits = omega (arith, m.begins, m.goes_on, m.last)

  pub first_mid : first ≤ mid
  first_mid = m.begins

  pub mid_end : mid ≤ end
  mid_end = m.goes_on
