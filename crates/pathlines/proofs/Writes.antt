-- A path below the scope, and the lines of the listed paths: laws as the needs ask them. Assumes nothing.
use Prim.Native.Nat.{ℕ, ◌+◌, ◌-◌, ◌≤◌, ◌<◌}
use mathlib.Core.Path.{◌≡◌, refl, sym, ap, ◌∙◌}
use mathlib.Core.Bool.{Bool, true, false, cond, not}
use mathlib.Core.List.{List, [], ◌∷◌, ◌++◌, map}
use native.Mathlib.Omega.{arith}
use lib.ListN.{length, take, drop, get_or, drop_of_length-le}
use lib.Seq.{get_or-take, length-take-le}
use borrow.Author.Rules.{rules}
use Rattle.text.specs.Ascii.{Bytes, ascii, byte}
use Rattle.text.specs.Compare.{same}
use Rattle.text.specs.Lists.{here}
use Rattle.text.specs.Scan.{split_at}
use Rattle.out.specs.Emit.{Out, emit1, emit, emit_append, ◌⊕◌, emit-⊕}
use Rattle.out.specs.Bytewise.{flat, becomes, flat_same}
use Rattle.out.specs.declared.bytewise.Mode.{Mode}
use Rattle.out.specs.Items.{each}
use Rattle.jobindex.specs.Index.{section}
use Rattle.design.specs.Lists.{those}
use Rattle.design.specs.Paths.{scope_path}
use Rattle.paths.specs.Pieces.{stem}
use Rattle.listing.specs.Listing.{cut, paths_of}
use Rattle.texts.specs.Domains.{force, release}
use Rattle.texts.specs.Scope.{slash_of}
use Rattle.scope.specs.Parts.{parts}
use Rattle.refs.specs.Heads.{is_there}
use Rattle.pathlines.specs.Lines.{scope_stem, below_stem, below, line_of, force_lines_lem, release_lines}

-- ---- what stands before a path

-- no part of an override is empty
stem_parts : (xs : List Bytes) (t : Bool) → t ≡ is_there (those (λ (q : Bytes). not (same q [])) xs) → stem (scope_path (those (λ (q : Bytes). not (same q [])) xs)) ≡ scope_path (those (λ (q : Bytes). not (same q [])) xs) ++ cond t (byte "." ∷ []) []
unfolding those same
stem_parts [] t h = rw h
stem_parts ([] ∷ xs) t h = stem_parts xs t h
stem_parts ((b ∷ x) ∷ xs) t h = rw h

module _ (over : Bytes) (from : ℕ) (t : Bool) (o o₁ : Out) (e : o₁ ≡ emit o (flat (becomes Mode.Same) (scope_path (parts over from)))) (h : t ≡ is_there (parts over from)) where
  front : o₁ ≡ emit o (scope_path (parts over from))
  front = e ∙ ap (emit o) (flat_same (scope_path (parts over from)))

  stem_is : stem (scope_path (parts over from)) ≡ scope_path (parts over from) ++ cond t (byte "." ∷ []) []
  stem_is = stem_parts (split_at (byte "/") (map slash_of (drop from over))) t h

  pub scope_dot : (o₂ : Out) → o₂ ≡ emit1 o₁ (byte ".") → t ≡ true → o₂ ≡ emit o (scope_stem (parts over from))
  unfolding emit scope_stem
  scope_dot o₂ g k = rw (stem_is, k, emit_append, ← front) g

  pub scope_bare : t ≡ false → o₁ ≡ emit o (scope_stem (parts over from))
  unfolding emit scope_stem
  scope_bare k = rw (stem_is, k, emit_append, ← front)

pub ruleset scopes = (rules, scope_dot, scope_bare)

-- ---- a line

pub line_is_lem : (o : Out) (scope : List Bytes) (before after path : Bytes) → emit o (before ⊕ scope_stem scope ⊕ path ⊕ after) ≡ emit o (line_of before after scope path)
line_is_lem o scope before after path =
    rw (emit-⊕, emit-⊕, emit-⊕) (sym (rw (below_stem scope path, emit_append, emit_append, emit_append)))

-- ---- a line for each of the paths left

pub record Left (f : Bytes → Bytes) (text : Bytes) (ends : List ℕ) (n : ℕ) (w o : Out) (k a : ℕ) : Type 0 where
  pub keeps : emit o (each f (cut text a (drop k (take n ends)))) ≡ w
  pub few : n ≤ length ends

module _ (f : Bytes → Bytes) (text : Bytes) (ends : List ℕ) (n : ℕ) where
  pub left_start : (o : Out) → n ≤ length ends → Left f text ends n (emit o (each f (paths_of text ends n))) o 0 0
  left_start o h = record { keeps = refl; few = h }

  module _ (w o : Out) (k a : ℕ) (inv : Left f text ends n w o k a) where
    long : length (take n ends) ≡ n
    long = length-take-le n ends inv.few

    pub left_done : n ≤ k → o ≡ w
    unfolding cut each emit
    left_done h = rw (drop_of_length-le (take n ends) {i = k} (omega (arith, long))) at inv.keeps

    pub left_next : (path : Bytes) (o' : Out) (m e : ℕ) → o' ≡ emit o (f path) → path ≡ take m (drop a text) → m ≡ e - a → e ≡ get_or ends k 0 → k < n → Left f text ends n w o' (k + 1) e
    unfolding cut each
    left_next path o' m e g p q y h =
        let z : drop k (take n ends) ≡ e ∷ drop (k + 1) (take n ends) = here (take n ends) k (omega (arith, long)) ∙ rw (get_or-take n ends k 0 h, y) in
        let s : section text a e ≡ path = rw (p, q) in
        record { keeps = rw g (rw (z, s, emit_append) at inv.keeps); few = inv.few }

pub ruleset lefts = (rules, left_start, left_done, left_next)

-- ---- the lines of the glue

pub forces_are : (scope qs : List Bytes) (o o' : Out) → o' ≡ emit o (each (line_of (ascii "      force ") (ascii " = 'x;\n") scope) qs) → o' ≡ emit o (each force (below scope qs))
forces_are scope qs o o' e = e ∙ ap (emit o) (force_lines_lem scope qs)

pub releases_are : (scope qs : List Bytes) (o o' : Out) → o' ≡ emit o (each (line_of (ascii "      release ") (ascii ";\n") scope) qs) → o' ≡ emit o (each release (below scope qs))
releases_are scope qs o o' e = e ∙ ap (emit o) (release_lines scope qs)
