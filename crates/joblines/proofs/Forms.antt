-- The values of lines, field by field. Where the last field is a NAME or a NET it has no space, so that it need not be searched for one.
-- Assumes nothing.
use mathlib.Core.Path.{◌≡◌, refl, ap, ◌∙◌, sym}
use Prim.Native.Nat.{ℕ, ◌+◌, ◌-◌, ◌≤◌}
use native.Mathlib.Nat.{sub-zero}
use native.Mathlib.Omega.{arith}
use mathlib.Core.Bool.{Bool, true, false, not, ◌&&◌, and-false}
use mathlib.Core.List.{List, [], ◌∷◌}
use Rattle.std.specs.Prelude.{Option, None, Some}
use lib.ListN.{length, take, drop}
use lib.Dec.{ltb}
use lib.Seq.{take_all}
use borrow.Author.Rules.{rules}
use borrow.Author.Tests.{not-true, not-false, ltb-false}
use Rattle.text.specs.Ascii.{Bytes, ascii, byte}
use Rattle.text.specs.Compare.{same}
use Rattle.text.specs.Scan.{before, up_to, Ends}
use Rattle.text.specs.Sames.{same_eq}
use Rattle.fields.specs.Fields.{Dir, Style, Kind, ansi, is_name, is_net, dims_of, dir_of, kind_of}
use Rattle.fields.specs.Meant.{dims_meant, dir_meant, kind_meant, dims_is, dir_is, kind_is}
use Rattle.fields.specs.Splits.{split_step, cut_from, cut_more, cut_last}
use Rattle.fields.specs.Names.{name_not_with, net_not_with}
use Rattle.fields.specs.declared.Dims.{Dims}
use Rattle.fields.specs.declared.Dir.{Dir as Dir·code}
use Rattle.fields.specs.declared.Kind.{Kind as Kind·code}
use Rattle.joblines.specs.Job.{Conn, implicit, named, pos}
use Rattle.joblines.specs.Lines.{when, fields, as_port, port_of, as_decl, decl_of, as_inst, inst_of, conn_of}

abbrev space : ℕ
space = byte " "

abbrev spaced : Bytes → Bool
spaced w = ltb (up_to space w) (length w)

-- the last field: one without a space, or it was two at least
last_field : (w : Bytes) (P : List Bytes → Type 0) → P (w ∷ []) → (spaced w ≡ true → (x y : Bytes) (zs : List Bytes) → P (x ∷ y ∷ zs)) → P (fields w)
last_field w P one more = go (spaced w) refl
  where
    go : (q : Bool) → spaced w ≡ q → P (fields w)
    go false e = rw (split_step space w, e, take_all (up_to space w) w (ltb-false (up_to space w) (length w) e)) one
    go true e = rw (split_step space w, e, split_step space (drop (up_to space w + 1) w)) (more e _ _ _)

dash : up_to space (byte "-" ∷ []) ≡ 1
unfolding before
dash = refl

name_spaced : (w : Bytes) → spaced w ≡ true → is_name w ≡ false
name_spaced w h = name_not_with space w refl h

net_spaced : (w : Bytes) → spaced w ≡ true → is_net w ≡ false
net_spaced w h = net_not_with space w refl h dash

-- ---- DIR NAME
port_last : (s : Style) (d w : Bytes) → port_of s (d ∷ fields w) ≡ as_port s (dir_of d) w
unfolding port_of
port_last s d w = last_field w (λ fs. port_of s (d ∷ fs) ≡ as_port s (dir_of d) w) refl (λ h x y zs. go (dir_of d) h)
  where
    go : (o : Option Dir) → spaced w ≡ true → None ≡ as_port s o w
    go None h = refl
    go (Some d) h = rw (name_spaced w h, and-false)

-- ---- KIND D NAME
decl_last : (k d w : Bytes) → decl_of (k ∷ d ∷ fields w) ≡ as_decl (kind_of k) (dims_of d) w
unfolding decl_of
decl_last k d w = last_field w (λ fs. decl_of (k ∷ d ∷ fs) ≡ as_decl (kind_of k) (dims_of d) w) refl (λ h x y zs. go (kind_of k) (dims_of d) h)
  where
    go : (o : Option Kind) (p : Option Bool) → spaced w ≡ true → None ≡ as_decl o p w
    go None p h = refl
    go (Some k) None h = refl
    go (Some k) (Some d) h = rw (name_spaced w h)

-- ---- D NAME MODULE
inst_last : (d n w : Bytes) → inst_of (d ∷ n ∷ fields w) ≡ as_inst (dims_of d) n w
unfolding inst_of
inst_last d n w = last_field w (λ fs. inst_of (d ∷ n ∷ fs) ≡ as_inst (dims_of d) n w) refl (λ h x y zs. go (dims_of d) h)
  where
    go : (o : Option Bool) → spaced w ≡ true → None ≡ as_inst o n w
    go None h = refl
    go (Some d) h = rw (name_spaced w h, and-false)

-- ---- a connection
pub conn_implicit : (w : Bytes) → conn_of (ascii "implicit" ∷ fields w) ≡ when (is_name w) (implicit w)
unfolding conn_of same
conn_implicit w = last_field w (λ fs. conn_of (ascii "implicit" ∷ fs) ≡ when (is_name w) (implicit w)) refl (λ h x y zs. rw (name_spaced w h) (go x y zs))
  where
    go : (x y : Bytes) (zs : List Bytes) → conn_of (ascii "implicit" ∷ x ∷ y ∷ zs) ≡ None
    go x y [] = refl
    go x y (z ∷ zs) = refl

pub conn_pos : (w : Bytes) → conn_of (ascii "pos" ∷ fields w) ≡ when (is_net w) (pos w)
unfolding conn_of same
conn_pos w = last_field w (λ fs. conn_of (ascii "pos" ∷ fs) ≡ when (is_net w) (pos w)) refl (λ h x y zs. rw (net_spaced w h) (go x y zs))
  where
    go : (x y : Bytes) (zs : List Bytes) → conn_of (ascii "pos" ∷ x ∷ y ∷ zs) ≡ None
    go x y [] = refl
    go x y (z ∷ zs) = refl

pub conn_named : (n w : Bytes) → conn_of (ascii "named" ∷ n ∷ fields w) ≡ when (is_name n && is_net w) (named n w)
unfolding conn_of same
conn_named n w = last_field w (λ fs. conn_of (ascii "named" ∷ n ∷ fs) ≡ when (is_name n && is_net w) (named n w)) refl (λ h x y zs. rw (net_spaced w h, and-false))

conn_none : (k w : Bytes) → same k (ascii "implicit") ≡ false → same k (ascii "pos") ≡ false → same k (ascii "named") ≡ false → conn_of (k ∷ fields w) ≡ None
unfolding conn_of
conn_none k w i p n = last_field w (λ fs. conn_of (k ∷ fs) ≡ None) (rw (i, p)) (λ h x y zs. go x y zs)
  where
    go : (x y : Bytes) (zs : List Bytes) → conn_of (k ∷ x ∷ y ∷ zs) ≡ None
    go x y [] = rw n
    go x y (z ∷ zs) = refl

-- ---- as the code tests them: a is where the first field ends, b where the second does
module _ (v : Bytes) (a : ℕ) (at : Ends (0 + up_to space (drop 0 v)) (length v) a) where
  one : a ≡ length v → fields v ≡ v ∷ []
  one l = cut_last space v 0 a at l

  two : (a ≡ length v → ⊥) → fields v ≡ take a v ∷ fields (drop (a + 1) v)
  two l = cut_more space v 0 a at (omega (arith, at.within)) ∙ rw sub-zero

  pub port_one_lem : a ≡ length v → None ≡ port_of ansi (fields v)
  unfolding port_of
  port_one_lem l = rw (one l)

  pub decl_one : a ≡ length v → None ≡ decl_of (fields v)
  unfolding decl_of
  decl_one l = rw (one l)

  pub inst_one : a ≡ length v → None ≡ inst_of (fields v)
  unfolding inst_of
  inst_one l = rw (one l)

  pub conn_one : (c : Option Conn) → a ≡ length v → c ≡ conn_of (v ∷ []) → c ≡ conn_of (fields v)
  conn_one c l e = rw (one l) e

  module _ (l : a ≡ length v → ⊥) (p : Bytes) (ep : p ≡ take a (drop 0 v)) where
    port_is : (o : Option Dir) → o ≡ dir_of p → port_of ansi (fields v) ≡ as_port ansi o (drop (a + 1) v)
    port_is o e = rw (two l, port_last ansi (take a v) (drop (a + 1) v), e, ep)

    pub port_dir : dir_meant None ≡ dir_of p → None ≡ port_of ansi (fields v)
    port_dir e = sym (port_is None e)

    module _ (d : Dir·code) (ed : dir_meant (Some d) ≡ dir_of p) (w : Bytes) (ew : w ≡ drop (a + 1) v) (m : Bool) (em : m ≡ is_name w) where
      pub port_name : not m ≡ true → None ≡ port_of ansi (fields v)
      port_name h = sym (port_is (Some (dir_is d)) ed ∙ rw (← ew, ← em, not-true m h))

      pub port_good : not m ≡ false → Some (record { dir = dir_is d; name = drop (a + 1) v }) ≡ port_of ansi (fields v)
      port_good h =
          let e : is_name (drop (a + 1) v) ≡ true = ap is_name (sym ew) ∙ (sym em ∙ not-false m h) in
          sym (port_is (Some (dir_is d)) ed ∙ rw e)

  module _ (l : a ≡ length v → ⊥) (b : ℕ) (bt : Ends (a + 1 + up_to space (drop (a + 1) v)) (length v) b) where
    two_only : b ≡ length v → fields v ≡ take a v ∷ drop (a + 1) v ∷ []
    two_only h = two l ∙ ap (λ fs. take a v ∷ fs) (cut_last space v (a + 1) b bt h)

    three : (b ≡ length v → ⊥) → fields v ≡ take a v ∷ take (b - (a + 1)) (drop (a + 1) v) ∷ fields (drop (b + 1) v)
    three h = two l ∙ ap (λ fs. take a v ∷ fs) (cut_more space v (a + 1) b bt (omega (arith, bt.within)))

    pub decl_two : b ≡ length v → None ≡ decl_of (fields v)
    unfolding decl_of
    decl_two h = rw (two_only h)

    pub inst_two : b ≡ length v → None ≡ inst_of (fields v)
    unfolding inst_of
    inst_two h = rw (two_only h)

    pub second_from : a + 1 ≤ b
    second_from = cut_from space v (a + 1) b bt

    pub name_within : a + 1 + (b - (a + 1)) ≤ length v
    name_within = omega (arith, second_from, bt.within)

    module _ (h : b ≡ length v → ⊥) (p : Bytes) (ep : p ≡ take a (drop 0 v)) where
      decl_is : (o : Option Kind) → o ≡ kind_of p → (q : Bytes) → q ≡ take (b - (a + 1)) (drop (a + 1) v) → decl_of (fields v) ≡ as_decl o (dims_of q) (drop (b + 1) v)
      decl_is o e q eq = rw (three h, decl_last (take a v) (take (b - (a + 1)) (drop (a + 1) v)) (drop (b + 1) v), ← ep, ← eq, e)

      pub decl_kind : kind_meant None ≡ kind_of p → None ≡ decl_of (fields v)
      decl_kind e = sym (decl_is None e (take (b - (a + 1)) (drop (a + 1) v)) refl)

      module _ (kind : Kind·code) (ek : kind_meant (Some kind) ≡ kind_of p) (q : Bytes) (eq : q ≡ take (b - (a + 1)) (drop (a + 1) v)) where
        pub decl_dims : dims_meant None ≡ dims_of q → None ≡ decl_of (fields v)
        decl_dims e = sym (decl_is (Some (kind_is kind)) ek q eq ∙ rw (← e))

        module _ (d : Dims) (ed : dims_meant (Some d) ≡ dims_of q) (w : Bytes) (ew : w ≡ drop (b + 1) v) (m : Bool) (em : m ≡ is_name w) where
          pub decl_name : not m ≡ true → None ≡ decl_of (fields v)
          decl_name g = sym (decl_is (Some (kind_is kind)) ek q eq ∙ rw (← ed, ← ew, ← em, not-true m g))

          pub decl_good : not m ≡ false → Some (record { kind = kind_is kind; dims = dims_is d; name = drop (b + 1) v }) ≡ decl_of (fields v)
          decl_good g =
              let e : is_name (drop (b + 1) v) ≡ true = ap is_name (sym ew) ∙ (sym em ∙ not-false m g) in
              sym (decl_is (Some (kind_is kind)) ek q eq ∙ rw (← ed, e))

      inst_is_lem : (o : Option Bool) → o ≡ dims_of p → inst_of (fields v) ≡ as_inst o (take (b - (a + 1)) (drop (a + 1) v)) (drop (b + 1) v)
      inst_is_lem o e = rw (three h, inst_last (take a v) (take (b - (a + 1)) (drop (a + 1) v)) (drop (b + 1) v), ← ep, e)

      pub inst_dims : dims_meant None ≡ dims_of p → None ≡ inst_of (fields v)
      inst_dims e = sym (inst_is_lem None e)

      module _ (d : Dims) (ed : dims_meant (Some d) ≡ dims_of p) (q : Bytes) (eq : q ≡ take (b - (a + 1)) (drop (a + 1) v)) (m : Bool) (em : m ≡ is_name q) where
        pub inst_name : not m ≡ true → None ≡ inst_of (fields v)
        inst_name g = sym (inst_is_lem (Some (dims_is d)) ed ∙ rw (← eq, ← em, not-true m g))

        module _ (w : Bytes) (ew : w ≡ drop (b + 1) v) (n : Bool) (en : n ≡ is_name w) where
          pub inst_type : not n ≡ true → None ≡ inst_of (fields v)
          inst_type g = sym (inst_is_lem (Some (dims_is d)) ed ∙ rw (← ew, ← en, not-true n g, and-false))

          pub inst_good : not m ≡ false → not n ≡ false → Some (record { dims = dims_is d; name = take (b - (a + 1)) (drop (a + 1) v); type = drop (b + 1) v; conns = [] }) ≡ inst_of (fields v)
          inst_good g g' =
              let e : is_name (drop (b + 1) v) ≡ true = ap is_name (sym ew) ∙ (sym en ∙ not-false n g') in
              let f : is_name (take (b - (a + 1)) (drop (a + 1) v)) ≡ true = ap is_name (sym eq) ∙ (sym em ∙ not-false m g) in
              sym (inst_is_lem (Some (dims_is d)) ed ∙ rw (e, f))

  -- a connection of more than one field; t is the first field beside a word
  module _ (l : a ≡ length v → ⊥) (p : Bytes) (ep : p ≡ take a (drop 0 v)) where
    word_is : (word : Bytes) (t : Bool) → t ≡ same p word → t ≡ true → conn_of (fields v) ≡ conn_of (word ∷ fields (drop (a + 1) v))
    word_is word t et h = rw (two l, ← ep, same_eq p word (sym et ∙ h))

    module _ (i : Bool) (ei : i ≡ same p (ascii "implicit")) where
      module _ (h : i ≡ true) (w : Bytes) (ew : w ≡ drop (a + 1) v) (m : Bool) (em : m ≡ is_name w) where
        implicit_is : conn_of (fields v) ≡ when m (implicit (drop (a + 1) v))
        implicit_is = word_is (ascii "implicit") i ei h ∙ (conn_implicit (drop (a + 1) v) ∙ rw (em, ew))

        pub implicit_not : not m ≡ true → None ≡ conn_of (fields v)
        implicit_not g = sym (implicit_is ∙ rw (not-true m g))

        pub implicit_good : not m ≡ false → Some (implicit (drop (a + 1) v)) ≡ conn_of (fields v)
        implicit_good g = sym (implicit_is ∙ rw (not-false m g))

      module _ (i-not : i ≡ false) (o : Bool) (eo : o ≡ same p (ascii "pos")) where
        module _ (h : o ≡ true) (w : Bytes) (ew : w ≡ drop (a + 1) v) (m : Bool) (em : m ≡ is_net w) where
          pos_is : conn_of (fields v) ≡ when m (pos (drop (a + 1) v))
          pos_is = word_is (ascii "pos") o eo h ∙ (conn_pos (drop (a + 1) v) ∙ rw (em, ew))

          pub pos_not : not m ≡ true → None ≡ conn_of (fields v)
          pos_not g = sym (pos_is ∙ rw (not-true m g))

          pub pos_good : not m ≡ false → Some (pos (drop (a + 1) v)) ≡ conn_of (fields v)
          pos_good g = sym (pos_is ∙ rw (not-false m g))

        module _ (o-not : o ≡ false) (n : Bool) (en : n ≡ same p (ascii "named")) where
          pub conn_other : not n ≡ true → None ≡ conn_of (fields v)
          conn_other g = sym (rw (two l, ← ep) (conn_none p (drop (a + 1) v) (sym ei ∙ i-not) (sym eo ∙ o-not) (sym en ∙ not-true n g)))

          pub conn_named_is : (r : Option Conn) → not n ≡ false → r ≡ conn_of (ascii "named" ∷ fields (drop (a + 1) v)) → r ≡ conn_of (fields v)
          conn_named_is r g e = e ∙ sym (word_is (ascii "named") n en (not-false n g))

-- `named PORT NET`, whose PORT begins at p and ends at b
module _ (v : Bytes) (p b : ℕ) (bt : Ends (p + up_to space (drop p v)) (length v) b) where
  pub named_one : b ≡ length v → None ≡ conn_of (ascii "named" ∷ fields (drop p v))
  unfolding conn_of same
  named_one h = rw (cut_last space v p b bt h)

  pub port_from : p ≤ b
  port_from = cut_from space v p b bt

  module _ (h : b ≡ length v → ⊥) (q : Bytes) (eq : q ≡ take (b - p) (drop p v)) (m : Bool) (em : m ≡ is_name q) where
    named_is : conn_of (ascii "named" ∷ fields (drop p v)) ≡ when (m && is_net (drop (b + 1) v)) (named (take (b - p) (drop p v)) (drop (b + 1) v))
    named_is = rw (cut_more space v p b bt (omega (arith, bt.within))) (conn_named (take (b - p) (drop p v)) (drop (b + 1) v) ∙ rw (em, eq))

    pub named_port : not m ≡ true → None ≡ conn_of (ascii "named" ∷ fields (drop p v))
    named_port g = sym (named_is ∙ rw (not-true m g))

    module _ (g : not m ≡ false) (w : Bytes) (ew : w ≡ drop (b + 1) v) (n : Bool) (en : n ≡ is_net w) where
      net_is_lem : conn_of (ascii "named" ∷ fields (drop p v)) ≡ when n (named (take (b - p) (drop p v)) (drop (b + 1) v))
      net_is_lem = named_is ∙ rw (not-false m g, en, ew)

      pub named_net : not n ≡ true → None ≡ conn_of (ascii "named" ∷ fields (drop p v))
      named_net k = sym (net_is_lem ∙ rw (not-true n k))

      pub named_good : not n ≡ false → Some (named (take (b - p) (drop p v)) (drop (b + 1) v)) ≡ conn_of (ascii "named" ∷ fields (drop p v))
      named_good k = sym (net_is_lem ∙ rw (not-false n k))

pub ruleset ports = (rules, port_one_lem, port_dir, port_name, port_good)

pub ruleset decls = (rules, second_from, decl_one, decl_two, decl_kind, decl_dims, decl_name, decl_good)

pub ruleset insts = (rules, second_from, inst_one, inst_two, inst_dims, inst_name, inst_type, inst_good)

pub ruleset conns = (rules, conn_one, implicit_not, implicit_good, pos_not, pos_good, conn_other, conn_named_is)

pub ruleset nameds = (rules, port_from, named_one, named_port, named_net, named_good)
