-- Whether a name is a string, whether two names are the same, and which comes first: on slices where that can be. Assumes nothing.
use Prim.Native.Nat.{ℕ}
use mathlib.Core.Path.{◌≡◌, refl, sym, ap, ◌∙◌}
use mathlib.Core.Bool.{Bool, true, false, ◌&&◌, ◌||◌, not}
use mathlib.Core.List.{◌∷◌, ◌++◌}
use lib.Dec.{eqb}
use lib.ListN.{length, take, drop, take-append-drop}
use lib.Seq.{take_at}
use borrow.Author.Rules.{rules}
use borrow.Author.Tests.{eq-eqb, eqb-true, not-true, not-false}
use Rattle.text.specs.Ascii.{Bytes, ascii, byte}
use Rattle.text.specs.Compare.{same, less, starts_with}
use Rattle.text.specs.Sames.{no_true, both, same_refl, same_eq, same_front, less_front}
use Rattle.spans.specs.Span.{◌⋯◌, bytes}
use Rattle.spans.specs.Frame.{whole}
use Rattle.spans.specs.declared.span.Span.{Span}
use Rattle.names.specs.Name.{named, entry_of, stands, slash, name_of}
use Rattle.names.specs.Laws.{stands_word}
use Rattle.names.specs.declared.name.Name.{Name}
use Rattle.names.specs.declared.name.Form.{Form}
use Rattle.names.specs.declared.name.Form.TheVariants.{Word}

-- ---- whether a name is a string

-- w begins with p
module _ (p u w : Bytes) (t : Bool) (e : t ≡ starts_with p w) where
  begins : t ≡ true → same (p ++ u) w ≡ same u (drop (length p) w)
  begins h =
      let q : take (length p) w ≡ p = same_eq (take (length p) w) p (sym e ∙ h) in
      let v : w ≡ p ++ drop (length p) w = sym (take-append-drop (length p) w) ∙ ap (λ (x : Bytes). x ++ drop (length p) w) q in
      ap (same (p ++ u)) v ∙ same_front p p u (drop (length p) w) (same_refl p)

  begins_not : t ≡ false → false ≡ same (p ++ u) w
  begins_not h = go (same (p ++ u) w) refl
    where
      go : (b : Bool) → same (p ++ u) w ≡ b → false ≡ b
      go false g = refl
      go true g =
          let v : w ≡ p ++ u = sym (same_eq (p ++ u) w g) in
          let q : take (length p) w ≡ p = ap (take (length p)) v ∙ take_at p u (length p) refl in
          sym h ∙ e ∙ ap (λ (x : Bytes). same x p) q ∙ same_refl p

module _ (mem w : Bytes) (s : Span) (form : Form) (r : Bool) where
  pub is_word_lem : r ≡ same (bytes mem s) w → stands form ≡ true → r ≡ same (entry_of form (bytes mem s)) w
  is_word_lem e h = rw (stands_word form h) e

  pub is_entry : (n : Name) → r ≡ same (name_of mem n) w → n ≡ named (0 ⋯ 0) false s form → r ≡ same (entry_of form (bytes mem s)) w
  unfolding name_of bytes
  is_entry n e h = rw h at e

module _ (sep : Bool) (u w : Bytes) where
  pub is_bare_lem : (r : Bool) → r ≡ same u w → not sep ≡ true → r ≡ same (slash sep ++ u) w
  is_bare_lem r e h = rw (not-true sep h) e

  module _ (h : not sep ≡ false) (t : Bool) (f : t ≡ starts_with (ascii "/") w) where
    pub is_no_slash : not t ≡ true → false ≡ same (slash sep ++ u) w
    is_no_slash g = rw (not-false sep h) (begins_not (ascii "/") u w t f (not-true t g))

    pub is_slash : not t ≡ false → (v : Bytes) (r : Bool) → r ≡ same u v → v ≡ drop 1 w → r ≡ same (slash sep ++ u) w
    is_slash g v r e d = rw (not-false sep h) (e ∙ ap (same u) d ∙ sym (begins (ascii "/") u w t f (not-false t g)))

module _ (mem w p : Bytes) (n : Name) (e : p ≡ take (length p) (bytes mem n.scope)) (l : length p ≡ n.scope.len) (t : Bool) (f : t ≡ starts_with p w) where
  scope_is_lem : bytes mem n.scope ≡ p
  scope_is_lem = sym (whole mem n.scope p e l)

  pub is_no_scope : not t ≡ true → false ≡ same (name_of mem n) w
  unfolding name_of
  is_no_scope g = rw scope_is_lem (begins_not p _ w t f (not-true t g))

  pub is_scope : not t ≡ false → (v : Bytes) (r : Bool) → r ≡ same (slash n.sep ++ entry_of n.form (bytes mem n.word)) v → v ≡ drop (length p) w → r ≡ same (name_of mem n) w
  unfolding name_of
  is_scope g v r d k = rw scope_is_lem (d ∙ ap (same (slash n.sep ++ entry_of n.form (bytes mem n.word))) k ∙ sym (begins p _ w t f (not-false t g)))

pub ruleset isses = (rules, is_word_lem, is_entry, is_bare_lem, is_no_slash, is_slash, is_no_scope, is_scope)

-- ---- two names whose parts stand beside each other

alike_by : (p q u v : Bytes) (a b : Form) (c d : Bool) → (stands a && stands b) && not ((c && not d) || (d && not c)) ≡ true → same p q ≡ true → same (p ++ (slash c ++ entry_of a u)) (q ++ (slash d ++ entry_of b v)) ≡ same u v
unfolding same
alike_by p q u v a b c d g h =
    let x = both (stands a && stands b) (not ((c && not d) || (d && not c))) g in
    let y = both (stands a) (stands b) x.0 in
    rw (stands_word a y.0, stands_word b y.1) (go c d x.1)
  where
    go : (c d : Bool) → not ((c && not d) || (d && not c)) ≡ true → same (p ++ (slash c ++ u)) (q ++ (slash d ++ v)) ≡ same u v
    go true true k = same_front p q (byte "/" ∷ u) (byte "/" ∷ v) h
    go false false k = same_front p q u v h
    go true false k = absurd (no_true k)
    go false true k = absurd (no_true k)

order_by : (p q u v : Bytes) (a b : Form) (c d : Bool) → (stands a && stands b) && not ((c && not d) || (d && not c)) ≡ true → same p q ≡ true → less (p ++ (slash c ++ entry_of a u)) (q ++ (slash d ++ entry_of b v)) ≡ less u v
unfolding less
order_by p q u v a b c d g h =
    let x = both (stands a && stands b) (not ((c && not d) || (d && not c))) g in
    let y = both (stands a) (stands b) x.0 in
    rw (stands_word a y.0, stands_word b y.1) (go c d x.1)
  where
    go : (c d : Bool) → not ((c && not d) || (d && not c)) ≡ true → less (p ++ (slash c ++ u)) (q ++ (slash d ++ v)) ≡ less u v
    go true true k = less_front p q (byte "/" ∷ u) (byte "/" ∷ v) h
    go false false k = less_front p q u v h
    go true false k = absurd (no_true k)
    go false true k = absurd (no_true k)

module _ (mem : Bytes) (x y : Name) (t : Bool) (e : t ≡ (stands x.form && stands y.form) && not ((x.sep && not y.sep) || (y.sep && not x.sep))) (g : not t ≡ false)
    (f : Bool) (h : f ≡ same (bytes mem x.scope) (bytes mem y.scope)) (k : f ≡ true) (r : Bool) where
  pub names_fast : r ≡ same (bytes mem x.word) (bytes mem y.word) → r ≡ same (name_of mem x) (name_of mem y)
  unfolding name_of
  names_fast l = l ∙ sym (alike_by (bytes mem x.scope) (bytes mem y.scope) (bytes mem x.word) (bytes mem y.word) x.form y.form x.sep y.sep (sym e ∙ not-false t g) (sym h ∙ k))

  pub order_fast : r ≡ less (bytes mem x.word) (bytes mem y.word) → r ≡ less (name_of mem x) (name_of mem y)
  unfolding name_of
  order_fast l = l ∙ sym (order_by (bytes mem x.scope) (bytes mem y.scope) (bytes mem x.word) (bytes mem y.word) x.form y.form x.sep y.sep (sym e ∙ not-false t g) (sym h ∙ k))

pub ruleset fast = (rules, names_fast)

-- ---- the order of two spans

module _ (mem : Bytes) (s t : Span) (r : Bool) where
  pub order_wholes : (p q : Bytes) → r ≡ less p q → p ≡ take (length p) (bytes mem s) → q ≡ take (length q) (bytes mem t) → eqb (length p) s.len && eqb (length q) t.len ≡ true → r ≡ less (bytes mem s) (bytes mem t)
  order_wholes p q h e f g =
      let b = both (eqb (length p) s.len) (eqb (length q) t.len) g in
      rw (← (whole mem s p e (eqb-true (length p) s.len b.0)), ← (whole mem t q f (eqb-true (length q) t.len b.1))) h

  pub order_streams : (x y : Name) → r ≡ less (name_of mem x) (name_of mem y) → x ≡ named (0 ⋯ 0) false s Word → y ≡ named (0 ⋯ 0) false t Word → r ≡ less (bytes mem s) (bytes mem t)
  unfolding name_of bytes
  order_streams x y h e f = rw (e, f) at h

pub ruleset orders = (rules, order_wholes, order_streams, order_fast)
