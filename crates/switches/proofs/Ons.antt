-- When a switch is on, written: laws as the needs ask them. Assumes nothing.
use Prim.Native.Nat.{ℕ, zero, suc, ◌+◌, ◌-◌, ◌≤◌, ◌<◌, ◌^◌}
use native.Mathlib.Omega.{arith}
use mathlib.Core.Path.{◌≡◌, refl, sym, ◌∙◌}
use mathlib.Core.List.{List, [], ◌∷◌, ◌++◌, map}
use lib.ListN.{length}
use Rattle.text.specs.Ascii.{Bytes, ascii}
use Rattle.out.specs.Emit.{Out, emit}
use Rattle.out.specs.Fill.{format1, arg, pick, turns, writes, emit_fill}
use Rattle.out.specs.Items.{joined, rest, unless, join_next, join_done}
use Rattle.spans.specs.Span.{bytes}
use Rattle.spans.specs.declared.span.Span.{Span}
use Rattle.tcl.specs.Lists.{list}
use Rattle.names.specs.Name.{name_of}
use Rattle.names.specs.declared.name.Name.{Name}
use Rattle.listnames.specs.Lists.{Whole, Known, whole_by}
use Rattle.model.specs.Records.{Control}
use Rattle.model.specs.Commands.{nth}
use Rattle.texts.specs.Setting.{Setting}
use Rattle.texts.specs.Switches.{condition}
use Rattle.store.specs.Strings.{span_of}
use Rattle.store.specs.View.{on_of}
use Rattle.store.specs.Rows.{word_at}
use Rattle.store.specs.declared.stored.Stored.{Stored}
use Rattle.switches.specs.Words.{ons_from, ons_cons, ons_none}
use Rattle.switches.specs.Texts.{on_text, ons_text}
use Rattle.switches.specs.Asked.{Ons}

-- ---- one

one_pieces : (o : Out) (x : Bytes) → emit (emit (emit o (ascii "(")) x) (ascii ")") ≡ emit o (format1 "({0})" x)
unfolding emit writes turns arg pick
one_pieces o x = sym (emit_fill o (ascii "({0})") x [] [] [] [])

pub on_one : (s : Setting) (cs : List Control) (mem : Bytes) (v : Span) (o o₁ o₂ o₃ : Out) (e : Name) (end : ℕ) → o₃ ≡ emit o₂ (ascii ")") → o₂ ≡ emit o₁ (condition s cs (name_of mem e)) → o₁ ≡ emit o (ascii "(") → Known mem (nth 2 (list (bytes mem v))) end e → o₃ ≡ emit o (on_text s cs (on_of (bytes mem v)))
on_one s cs mem v o o₁ o₂ o₃ e end e₃ e₂ e₁ k = rw (e₃, e₂, e₁, k.is) (one_pieces o (condition s cs (nth 2 (list (bytes mem v)))))

-- ---- several

pub record OnLoop (s : Setting) (cs : List Control) (mem : Bytes) (nums : List ℕ) (first n : ℕ) (sep : Bytes) (w o : Out) (k : ℕ) : Type 0 where
  pub keeps : emit o (rest sep k (map (on_text s cs) (ons_from mem nums (first + k) (n - k)))) ≡ w

pub ons_start : (s : Setting) (cs : List Control) (mem : Bytes) (nums : List ℕ) (first n : ℕ) (sep : Bytes) (o : Out) → OnLoop s cs mem nums first n sep (emit o (joined sep (map (on_text s cs) (ons_from mem nums first n)))) o 0
unfolding rest
ons_start s cs mem nums first n sep o = let e : n - 0 ≡ n = omega arith in let z : first + 0 ≡ first = omega arith in record { keeps = rw (e, z) }

module _ (s : Setting) (cs : List Control) (mem : Bytes) (nums : List ℕ) (first n : ℕ) (sep : Bytes) (w o : Out) (k : ℕ) (inv : OnLoop s cs mem nums first n sep w o k) where
  pub ons_step : (o₁ o₂ : Out) (u : Span) (v : Stored) → o₂ ≡ emit o₁ (on_text s cs (on_of (bytes mem u))) → o₁ ≡ emit o (unless k sep) → u ≡ span_of v → v ≡ word_at nums (first + k) → k < n → OnLoop s cs mem nums first n sep w o₂ (k + 1)
  ons_step o₁ o₂ u v e₂ e₁ eu ev h =
      let z : n - k ≡ suc (n - (k + 1)) = omega arith in
      let y : first + k + 1 ≡ first + (k + 1) = omega arith in
      let l : ons_from mem nums (first + k) (n - k) ≡ on_of (bytes mem u) ∷ ons_from mem nums (first + (k + 1)) (n - (k + 1)) = rw (z, eu, ev) (ons_cons mem nums (first + k) (n - (k + 1)) ∙ rw y) in
      record { keeps = join_next o o₁ o₂ w sep k 0 (on_text s cs (on_of (bytes mem u))) (map (on_text s cs) (ons_from mem nums (first + (k + 1)) (n - (k + 1)))) e₁ e₂ (rw l at inv.keeps) }

  pub ons_done : n ≤ k → o ≡ w
  ons_done h = let z : n - k ≡ 0 = omega arith in join_done o w sep k (rw (z, ons_none mem nums (first + k)) at inv.keeps)

module _ (files area nums : List ℕ) (first n count : ℕ) (a : Ons files area nums first n count) where
  pub ons_small : length (files ++ area) < 2 ^ 32
  ons_small = a.small

  pub ons_rows : count ≤ 65536
  ons_rows = a.rows

  module _ (k : ℕ) (h : k < n) where
    pub ons_fits : first + k < 2 ^ 64
    ons_fits = omega (arith, a.fits)

    pub ons_low : first + k < 4032
    ons_low = omega (arith, a.fits)

    pub ons_whole : (u : Span) (v : Stored) → u ≡ span_of v → v ≡ word_at nums (first + k) → Whole (length files) u
    ons_whole u v eu ev = whole_by (length files) (length (files ++ area)) u a.small (rw (eu, ev) (a.words (first + k) (omega arith)))

-- ---- none, or one and more

module _ (s : Setting) (cs : List Control) (mem : Bytes) (nums : List ℕ) (first : ℕ) (o o' : Out) where
  pub on_off : (n : ℕ) → o' ≡ emit o (ascii "1'b0") → n ≡ 0 → o' ≡ emit o (ons_text s cs (ons_from mem nums first n))
  on_off n e h = rw (h, ons_none mem nums first) e

  pub on_some : (n : ℕ) → o' ≡ emit o (joined (ascii " || ") (map (on_text s cs) (ons_from mem nums first n))) → (n ≡ 0 → ⊥) → o' ≡ emit o (ons_text s cs (ons_from mem nums first n))
  on_some zero e h = absurd (h refl)
  on_some (suc n) e h = let z = ons_cons mem nums first n in rw z (rw z at e)
