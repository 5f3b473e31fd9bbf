-- Ports told apart: by the last byte of their names, or by their elements. Each law is stated as a need asks it. Assumes nothing.
use Rattle.std.specs.Prelude.{Option, Some, None}
use Prim.Native.Nat.{ℕ, suc, ◌+◌, ◌-◌, ◌*◌}
use native.Mathlib.Omega.{arith}
use mathlib.Core.Path.{◌≡◌, refl, sym, ap, ap₂, ◌∙◌}
use mathlib.Core.Bool.{Bool, true, false, cond, not, ◌&&◌, ◌||◌}
use mathlib.Core.List.{List, [], ◌∷◌, ◌++◌, append_assoc}
use lib.Dec.{eqb}
use lib.ListN.{length, take, drop, get_or}
use borrow.Author.Rules.{rules}
use borrow.Author.Tests.{eqb-true, ne_eqb, eq-eqb}
use Rattle.text.specs.Ascii.{Bytes, byte}
use Rattle.text.specs.Compare.{same}
use Rattle.text.specs.Sames.{same_eq, same_of, same_front, both, no_true}
use Rattle.spans.specs.Span.{bytes, got_of}
use Rattle.spans.specs.Frame.{shorter}
use Rattle.spans.specs.declared.span.Span.{Span}
use Rattle.tcl.specs.Rewrite.{rewrite}
use Rattle.tcl.specs.Join.{joint_by, joined_by, join}
use Rattle.tcl.specs.Substitution.{escape, unescape}
use Rattle.names.specs.Name.{entry_of, slash, name_of}
use Rattle.names.specs.declared.name.Name.{Name}
use Rattle.names.specs.declared.name.Form.{Form}
use Rattle.names.specs.declared.name.Form.TheVariants.{Word, Entry, Quoted}
use Rattle.nametable.specs.Table.{row_name}
use Rattle.refs.specs.Text.{text_of, no_name}
use Rattle.refs.specs.Heads.{Apart}
use Rattle.isolated.specs.Table.{port_row, port_ref}
use Rattle.isolated.specs.Others.{WordsApart, one_scope, NamesApart, Other}
use Rattle.isolated.specs.declared.Isolated.{Isolated}

-- ---- numbers of a row

pub strategy_row : (t : List ℕ) (k n : ℕ) → n ≡ get_or t (5 * (4 * k + 3)) 0 → n ≡ (port_row t k).strategy
unfolding port_row row_name
strategy_row t k n e = e

pub part_row : (t : List ℕ) (job v : Bytes) (k a n : ℕ) → a ≡ get_or t (5 * (4 * k + 2)) 0 → n ≡ get_or t (5 * (4 * k + 2) + 1) 0 → v ≡ take n (drop a job) → v ≡ take (port_row t k).len (drop (port_row t k).at job)
unfolding port_row row_name
part_row t job v k a n e f g = g ∙ rw (e, f)

pub ruleset reads = (rules, strategy_row, part_row)

-- ---- the last bytes

abbrev last_of : ℕ → Bytes → ℕ
last_of x [] = x
last_of x (y ∷ l) = last_of y l

last_get : (x : ℕ) (l : Bytes) → get_or (x ∷ l) (length l) 0 ≡ last_of x l
last_get x [] = refl
last_get x (y ∷ l) = last_get y l

abbrev end : Bytes → ℕ
end [] = 0
end (x ∷ l) = last_of x l

last_append : (x : ℕ) (p : Bytes) (y : ℕ) (u : Bytes) → last_of x (p ++ (y ∷ u)) ≡ last_of y u
last_append x [] y u = refl
last_append x (z ∷ p) y u = last_append z p y u

end_append : (p : Bytes) (y : ℕ) (u : Bytes) → end (p ++ (y ∷ u)) ≡ last_of y u
end_append [] y u = refl
end_append (x ∷ p) y u = last_append x p y u

ends_differ : (x y : ℕ) (u v p q : Bytes) → (last_of x u ≡ last_of y v → ⊥) → false ≡ same (p ++ (x ∷ u)) (q ++ (y ∷ v))
ends_differ x y u v p q h = go (same (p ++ (x ∷ u)) (q ++ (y ∷ v))) refl
  where
    go : (b : Bool) → same (p ++ (x ∷ u)) (q ++ (y ∷ v)) ≡ b → false ≡ b
    go false e = refl
    go true e = absurd (h (sym (end_append p x u) ∙ ap (λ (l : Bytes). end l) (same_eq _ _ e) ∙ end_append q y v))

pub not_apart : (u v : Bytes) → Apart u v false
not_apart u v = record { is = λ e. absurd (no_true e) }

pub is_apart : (u v : Bytes) → (length u ≡ 0 → ⊥) → (length v ≡ 0 → ⊥) → (get_or u (length u - 1) 0 ≡ get_or v (length v - 1) 0 → ⊥) → Apart u v true
is_apart [] v h g z = absurd (h refl)
is_apart (x ∷ u) [] h g z = absurd (g refl)
is_apart (x ∷ u) (y ∷ v) h g z =
    let a : suc (length u) - 1 ≡ length u = omega arith in
    let b : suc (length v) - 1 ≡ length v = omega arith in
    record { is = λ _. λ p q. ends_differ x y u v p q (λ k. z (rw (a, b) (last_get x u ∙ k ∙ sym (last_get y v)))) }

pub ends_apart : (u v : Bytes) → (length u ≡ 0 → ⊥) → (length v ≡ 0 → ⊥) → Apart u v (not (eqb (get_or u (length u - 1) 0) (get_or v (length v - 1) 0)))
ends_apart u v h g = go (eqb (get_or u (length u - 1) 0) (get_or v (length v - 1) 0)) refl
  where
    go : (b : Bool) → eqb (get_or u (length u - 1) 0) (get_or v (length v - 1) 0) ≡ b → Apart u v (not b)
    go true e = not_apart u v
    go false e = is_apart u v h g (λ z. no_true (sym e ∙ eq-eqb _ _ z))

pub ruleset aparts = (rules, not_apart, ends_apart)

-- ---- words: a byte that is no backslash is read as it stands in every form

join_plain : (b : ℕ) (l : Bytes) → eqb b (byte "\\") ≡ false → join (b ∷ l) ≡ b ∷ join l
unfolding rewrite joint_by joined_by
join_plain b l e = rw e

unescape_plain : (b : ℕ) (l : Bytes) → eqb b (byte "\\") ≡ false → unescape (b ∷ l) ≡ b ∷ unescape l
unfolding rewrite escape
unescape_plain b [] e = refl
unescape_plain b (x ∷ l) e = rw e

entry_plain : (f : Form) (b : ℕ) (l : Bytes) → eqb b (byte "\\") ≡ false → entry_of f (b ∷ l) ≡ b ∷ entry_of f l
entry_plain Word b l e = refl
entry_plain Entry b l e = join_plain b l e
entry_plain Quoted b l e = ap (λ (m : Bytes). unescape m) (join_plain b l e) ∙ unescape_plain b (join l) e

-- the words are as far the same
pub record Reads (mem : Bytes) (s t x y : Span) : Type 0 where
  pub keeps : (f g : Form) (p q : Bytes) → same (entry_of f (bytes mem s) ++ p) (entry_of g (bytes mem t) ++ q) ≡ same (entry_of f (bytes mem x) ++ p) (entry_of g (bytes mem y) ++ q)

pub reads_start : (mem : Bytes) (s t : Span) → Reads mem s t s t
reads_start mem s t = record { keeps = λ f g p q. refl }

pub words_not : (mem : Bytes) (s t : Span) → WordsApart mem s t false
words_not mem s t = record { is = λ e. absurd (no_true e) }

neither : (a b : Bool) → a || b ≡ false → (a ≡ false) × (b ≡ false)
neither true b e = absurd (no_true (sym e))
neither false true e = absurd (no_true (sym e))
neither false false e = (refl, refl)

module _ (mem : Bytes) (s t x y : Span) (inv : Reads mem s t x y) (p q : Option (ℕ × Span)) (e : bytes mem x ≡ got_of mem p) (f : bytes mem y ≡ got_of mem q) (a b : ℕ) (u v : Span) (h : p ≡ Some (a, u)) (g : q ≡ Some (b, v)) (plain : eqb a (byte "\\") || eqb b (byte "\\") ≡ false) where
  left_is : (k : Form) → entry_of k (bytes mem x) ≡ a ∷ entry_of k (bytes mem u)
  left_is k = ap (λ (l : Bytes). entry_of k l) (e ∙ rw h) ∙ entry_plain k a (bytes mem u) (neither (eqb a (byte "\\")) (eqb b (byte "\\")) plain).0

  right_is : (k : Form) → entry_of k (bytes mem y) ≡ b ∷ entry_of k (bytes mem v)
  right_is k = ap (λ (l : Bytes). entry_of k l) (f ∙ rw g) ∙ entry_plain k b (bytes mem v) (neither (eqb a (byte "\\")) (eqb b (byte "\\")) plain).1

  pub words_stop : (a ≡ b → ⊥) → WordsApart mem s t true
  unfolding same
  words_stop z = record { is = λ _. λ k j m n. sym (inv.keeps k j m n ∙ rw (left_is k, right_is j, ne_eqb a b z)) }

  pub words_step : a ≡ b → Reads mem s t u v
  unfolding same
  words_step z = record { keeps = λ k j m n. inv.keeps k j m n ∙ rw (left_is k, right_is j, eq-eqb a b z) }

pub ruleset words = (rules, shorter, reads_start, words_not, words_stop, words_step)

-- ---- names of one scope

pub names_not : (mem : Bytes) (a b : Name) → NamesApart mem a b false
names_not mem a b = record { is = λ e. absurd (no_true e) }

slashes : (a b : Bool) → (a && b) || (not a && not b) ≡ true → a ≡ b
slashes true true h = refl
slashes false false h = refl
slashes true false h = absurd (no_true h)
slashes false true h = absurd (no_true h)

yes_is : (b : Bool) → not b ≡ false → b ≡ true
yes_is true h = refl
yes_is false h = absurd (no_true (sym h))

name_parts : (mem : Bytes) (a : Name) (p : Bytes) → name_of mem a ++ p ≡ (bytes mem a.scope ++ slash a.sep) ++ (entry_of a.form (bytes mem a.word) ++ p)
unfolding name_of
name_parts mem a p = go (bytes mem a.scope) (slash a.sep) (entry_of a.form (bytes mem a.word))
  where
    go : (s t w : Bytes) → (s ++ (t ++ w)) ++ p ≡ (s ++ t) ++ (w ++ p)
    go s t w = ap (λ (l : Bytes). l ++ p) (sym (append_assoc s t w)) ∙ append_assoc (s ++ t) w p

pub names_by : (mem : Bytes) (a b : Name) (o r : Bool) → o ≡ one_scope a b → not o ≡ false → WordsApart mem a.word b.word r → NamesApart mem a b r
unfolding bytes
names_by mem a b o r e h w =
    let k = both (eqb a.scope.at b.scope.at && eqb a.scope.len b.scope.len) _ (sym e ∙ yes_is o h) in
    let n = both (eqb a.scope.at b.scope.at) _ k.0 in
    let i : a.scope.at ≡ b.scope.at = eqb-true _ _ n.0 in
    let j : a.scope.len ≡ b.scope.len = eqb-true _ _ n.1 in
    let l : a.sep ≡ b.sep = slashes a.sep b.sep k.1 in
    let f : bytes mem a.scope ++ slash a.sep ≡ bytes mem b.scope ++ slash b.sep = rw (i, j, l) in
    let g : same (bytes mem a.scope ++ slash a.sep) (bytes mem b.scope ++ slash b.sep) ≡ true = same_of _ _ f in
    record { is = λ d. λ p q. w.is d a.form b.form p q ∙ sym (ap₂ same (name_parts mem a p) (name_parts mem b q) ∙ same_front _ _ _ _ g) }

pub ruleset scopes = (rules, names_not, names_by)

-- ---- ports

module _ (job mem : Bytes) (x y : Isolated) where
  abbrev head_of : Isolated → Bytes
  head_of z = name_of mem z.element ++ (slash z.sep ++ name_of mem no_name)

  text_end : (z : Isolated) (u : Bytes) → u ≡ take z.len (drop z.at job) → text_of job mem (port_ref z) ≡ head_of z ++ u
  unfolding text_of
  text_end z u e = rw e (go (name_of mem z.element) (slash z.sep) (name_of mem no_name) (take z.len (drop z.at job)))
    where
      go : (a b c d : Bytes) → a ++ (b ++ (c ++ d)) ≡ (a ++ (b ++ c)) ++ d
      go a b c d = ap (λ (l : Bytes). a ++ l) (sym (append_assoc b c d)) ∙ sym (append_assoc a (b ++ c) d)

  pub other_end : (u v : Bytes) (r : Bool) → u ≡ take x.len (drop x.at job) → v ≡ take y.len (drop y.at job) → Apart u v r → r ≡ true → Other job mem x y true
  other_end u v r e f w h = record { is = λ _. w.is h (head_of x) (head_of y) ∙ sym (ap₂ same (text_end x u e) (text_end y v f)) }

  pub other_name : (r : Bool) → NamesApart mem x.element y.element r → Other job mem x y r
  unfolding text_of
  other_name r w = record { is = λ h. w.is h _ _ }

pub other_row : (job mem : Bytes) (x : Isolated) (t : List ℕ) (k : ℕ) (n : Name) (r : Bool) → n ≡ row_name t (4 * k) → NamesApart mem x.element n r → Other job mem x (port_row t k) r
unfolding port_row
other_row job mem x t k n r e w = other_name job mem x (port_row t k) r (rw e at w)

pub ruleset others = (rules, other_end, other_row)
