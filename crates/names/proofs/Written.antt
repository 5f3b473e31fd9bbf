-- A span as two slices, and what is written part by part: laws as the needs ask them. Assumes nothing.
use Prim.Native.Nat.{ℕ, ◌-◌, ◌≤◌}
use native.Mathlib.Omega.{arith}
use mathlib.Core.Path.{◌≡◌}
use mathlib.Core.Bool.{Bool, true, false}
use mathlib.Core.List.{◌++◌, append-nil}
use lib.ListN.{length, take, drop, length-drop}
use borrow.Author.Rules.{rules}
use borrow.Author.Tests.{eq-eqb}
use Rattle.text.specs.Ascii.{Bytes, byte}
use Rattle.text.specs.Lists.{drop_two, take_two}
use Rattle.spans.specs.Span.{◌⋯◌, bytes}
use Rattle.spans.specs.declared.span.Span.{Span}
use Rattle.out.specs.Emit.{Out, emit, emit_append}
use Rattle.out.specs.Bytewise.{flat, becomes, mangle, dotted, sv_str, flat_two, flat_same}
use Rattle.out.specs.declared.bytewise.Mode.{Mode}
use Rattle.names.specs.Name.{named, entry_of, stands, slash, name_of}
use Rattle.names.specs.Laws.{stands_word}
use Rattle.names.specs.declared.name.Name.{Name}
use Rattle.names.specs.declared.name.Form.{Form}

pub span_two : (t a : Bytes) (s : Span) → bytes (t ++ a) s ≡ take s.len (drop s.at t) ++ take (s.len - (length t - s.at)) (drop (s.at - length t) a)
unfolding bytes
span_two t a s = rw (drop_two, take_two, length-drop)

-- the modes by their names
module _ (o w : Out) (p : Bytes) where
  pub put_same : w ≡ emit o (flat (becomes Mode.Same) p) → w ≡ emit o p
  put_same e = rw flat_same at e

  pub put_mangle : w ≡ emit o (flat (becomes Mode.Mangled) p) → w ≡ emit o (mangle p)
  unfolding becomes
  put_mangle e = e

  pub put_dots : w ≡ emit o (flat (becomes Mode.Dotted) p) → w ≡ emit o (dotted p)
  unfolding becomes
  put_dots e = e

  pub put_string : w ≡ emit o (flat (becomes Mode.Quoted) p) → w ≡ emit o (sv_str p)
  unfolding becomes
  put_string e = e

pub ruleset modes = (rules, put_same, put_mangle, put_dots, put_string)

pub put_plain : (m : Mode) (o w : Out) (p : Bytes) → w ≡ emit o p → m ≡ Mode.Same → w ≡ emit o (flat (becomes m) p)
put_plain m o w p e h = rw (h, flat_same) e

pub put_two : (f : ℕ → Bytes) (t a : Bytes) (s : Span) (o o₁ o₂ : Out) (p q : Bytes) (i j k : ℕ) → o₂ ≡ emit o₁ (flat f q) → o₁ ≡ emit o (flat f p)
    → p ≡ take s.len (drop s.at t) → q ≡ take k (drop j a) → j ≡ s.at - length t → k ≡ s.len - i → i ≡ length t - s.at → o₂ ≡ emit o (flat f (bytes (t ++ a) s))
put_two f t a s o o₁ o₂ p q i j k h g d e x y z = rw (span_two, ← z, ← y, ← x, ← d, ← e) (flat_two f o o₁ o₂ p q h g)

-- the same where there is nothing to write, and where all of it lies in the first
pub put_nothing : (f : ℕ → Bytes) (mem : Bytes) (s : Span) (o : Out) → s.len ≡ 0 → o ≡ emit o (flat f (bytes mem s))
unfolding bytes flat emit
put_nothing f mem s o h = rw h

pub put_first : (f : ℕ → Bytes) (t a : Bytes) (s : Span) (o o₁ : Out) (p : Bytes) (i : ℕ) → o₁ ≡ emit o (flat f p) → p ≡ take s.len (drop s.at t) → i ≡ length t - s.at → s.len ≤ i → o₁ ≡ emit o (flat f (bytes (t ++ a) s))
put_first f t a s o o₁ p i g d z h = let e : s.len - (length t - s.at) ≡ 0 = omega arith in rw (span_two, e, append-nil, ← d) g

module _ (f : ℕ → Bytes) (mem : Bytes) (o o₂ : Out) where
  pub put_entry : (n : Name) (form : Form) (w : Span) → o₂ ≡ emit o (flat f (name_of mem n)) → n ≡ named (0 ⋯ 0) false w form → o₂ ≡ emit o (flat f (entry_of form (bytes mem w)))
  unfolding name_of bytes
  put_entry n form w h e = rw e at h

  pub put_word : (form : Form) (w : Span) → o₂ ≡ emit o (flat f (bytes mem w)) → stands form ≡ true → o₂ ≡ emit o (flat f (entry_of form (bytes mem w)))
  put_word form w h g = rw (stands_word form g) h

  pub put_sep : (b : Bool) (w : Bytes) (o₁ : Out) → o₂ ≡ emit o₁ (flat f w) → o₁ ≡ emit o (f (byte "/")) → b ≡ true → o₂ ≡ emit o (flat f (slash b ++ w))
  unfolding flat
  put_sep b w o₁ h g e = rw (e, emit_append, ← g) h

  pub put_bare : (b : Bool) (w : Bytes) → o₂ ≡ emit o (flat f w) → b ≡ false → o₂ ≡ emit o (flat f (slash b ++ w))
  put_bare b w h e = rw e h

  pub put_all : (n : Name) (o₁ : Out) → o₂ ≡ emit o₁ (flat f (slash n.sep ++ entry_of n.form (bytes mem n.word))) → o₁ ≡ emit o (flat f (bytes mem n.scope)) → o₂ ≡ emit o (flat f (name_of mem n))
  unfolding name_of
  put_all n o₁ h g = flat_two f o o₁ o₂ (bytes mem n.scope) (slash n.sep ++ entry_of n.form (bytes mem n.word)) h g

pub ruleset written = (rules, put_plain, put_two, put_nothing, put_first, put_entry, put_word, put_sep, put_bare, put_all)
