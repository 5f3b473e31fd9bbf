-- A retained entry, several of them, and the line: laws as the needs ask them. Assumes nothing.
use Prim.Native.Nat.{ℕ, suc, ◌+◌, ◌-◌, ◌≤◌, ◌<◌}
use mathlib.Core.Path.{◌≡◌, sym, ap, ◌∙◌}
use mathlib.Core.List.{List, ◌∷◌, ◌++◌, map, append-nil}
use native.Mathlib.Omega.{arith}
use borrow.Author.Rules.{rules}
use Rattle.text.specs.Ascii.{Bytes, ascii}
use Rattle.out.specs.Emit.{Out, emit, emit_append, emit-⊕, ◌⊕◌}
use Rattle.out.specs.Bytewise.{dotted}
use Rattle.out.specs.Fill.{fill, filled, adds, turns, arg, pick, writes, format1, format2, emit_fill}
use Rattle.out.specs.Items.{joined, rest, unless, join_next, join_done}
use Rattle.names.specs.Name.{name_of}
use Rattle.names.specs.Laws.{dotted_map}
use Rattle.names.specs.declared.name.Name.{Name}
use Rattle.nametable.specs.Table.{row_name, names_from, table_names, names_next, names_none}
use Rattle.design.specs.Paths.{retained_path}
use Rattle.pathlines.specs.Lines.{scope_stem, below_stem}
use Rattle.texts.specs.Domains.{exempt}

-- ---- an entry

pub entry_is : (scope : List Bytes) (e : Bytes) (o o₁ o₂ : Out) → o₂ ≡ emit o₁ (dotted e) → o₁ ≡ emit o (scope_stem scope) → o₂ ≡ emit o (retained_path scope e)
entry_is scope e o o₁ o₂ h g = rw (below_stem scope, emit_append, ← g, ← dotted_map e) h

-- ---- several

pub record Joins (sep mem : Bytes) (scope : List Bytes) (table : List ℕ) (n : ℕ) (w o : Out) (k : ℕ) : Type 0 where
  pub keeps : emit o (rest sep k (map (retained_path scope) (names_from mem table k (n - k)))) ≡ w

pub joins_start : (sep mem : Bytes) (scope : List Bytes) (table : List ℕ) (n : ℕ) (o : Out) → Joins sep mem scope table n (emit o (joined sep (map (retained_path scope) (table_names mem table n)))) o 0
unfolding rest
joins_start sep mem scope table n o = let e : n - 0 ≡ n = omega arith in record { keeps = rw e }

module _ (sep mem : Bytes) (scope : List Bytes) (table : List ℕ) (n : ℕ) (w o : Out) (k : ℕ) (inv : Joins sep mem scope table n w o k) where
  pub joins_next : (x : Name) (o₁ o₂ : Out) → o₂ ≡ emit o₁ (retained_path scope (name_of mem x)) → o₁ ≡ emit o (unless k sep) → x ≡ row_name table k → k < n → Joins sep mem scope table n w o₂ (k + 1)
  joins_next x o₁ o₂ e₂ e₁ ex h =
      let z : n - k ≡ suc (n - (k + 1)) = omega arith in
      record { keeps = join_next o o₁ o₂ w sep k 0 (retained_path scope (name_of mem x)) (map (retained_path scope) (names_from mem table (k + 1) (n - (k + 1)))) e₁ e₂ (rw (z, names_next mem table k (n - (k + 1)), ← ex) at inv.keeps) }

  pub joins_done : n ≤ k → o ≡ w
  joins_done h = let z : n - k ≡ 0 = omega arith in join_done o w sep k (rw (z, names_none mem table k) at inv.keeps)

pub ruleset joins = (rules, joins_next, joins_done)

-- ---- all of them, or nothing

exempt_text : (t : Bytes) → format1 ", retention exempt: {0}" t ≡ ascii ", retention exempt: " ++ t
unfolding fill filled adds turns arg pick
exempt_text t = rw append-nil

exempt_some : (e : Bytes) (es : List Bytes) (o o₁ o₂ : Out) → o₂ ≡ emit o₁ (joined (ascii ",") (e ∷ es)) → o₁ ≡ emit o (ascii ", retention exempt: ") → o₂ ≡ emit o (exempt (e ∷ es))
exempt_some e es o o₁ o₂ h g = h ∙ rw g (sym (ap (emit o) (exempt_text (joined (ascii ",") (e ∷ es))) ∙ emit_append o (ascii ", retention exempt: ") (joined (ascii ",") (e ∷ es))))

module _ (mem : Bytes) (scope : List Bytes) (table : List ℕ) (n : ℕ) where
  pub exempt_none : (o : Out) → n ≡ 0 → o ≡ emit o (exempt (map (retained_path scope) (table_names mem table n)))
  unfolding emit
  exempt_none o h = rw (h, names_none mem table 0)

  pub exempt_all : (o o₁ o₂ : Out) → o₂ ≡ emit o₁ (joined (ascii ",") (map (retained_path scope) (table_names mem table n))) → o₁ ≡ emit o (ascii ", retention exempt: ") → (n ≡ 0 → ⊥) → o₂ ≡ emit o (exempt (map (retained_path scope) (table_names mem table n)))
  exempt_all o o₁ o₂ h g k =
      let z : n ≡ suc (n - 1) = omega (arith, k) in
      let q : table_names mem table n ≡ name_of mem (row_name table 0) ∷ names_from mem table (0 + 1) (n - 1) = ap (table_names mem table) z ∙ names_next mem table 0 (n - 1) in
      rw q (exempt_some (retained_path scope (name_of mem (row_name table 0))) (map (retained_path scope) (names_from mem table (0 + 1) (n - 1))) o o₁ o₂ (rw q at h) g)

pub ruleset exempts = (rules, exempt_none, exempt_all)

-- ---- the line

pub signals_pieces : (o : Out) (name es power ground_net number : Bytes) → emit o (format1 "power domain {0}: elements [" name ⊕ es ⊕ format2 "], power {0}, ground {1}, " power ground_net ⊕ number ⊕ ascii " corruptible signals") ≡ emit o (fill (ascii "power domain {0}: elements [{1}], power {2}, ground {3}, {4} corruptible signals") name es power ground_net number)
unfolding emit writes turns arg pick
signals_pieces o name es power ground_net number = simp (emit-⊕, emit_fill)
