-- The scope's path and names below it, as their writers ask: o' is what the last call left. Assumes nothing.
use Rattle.std.specs.Prelude.{Option, Some, None}
use Prim.Native.Nat.{ℕ, ◌+◌, ◌-◌, ◌≤◌, ◌<◌}
use mathlib.Core.Path.{◌≡◌, refl, sym, ap, ◌∙◌}
use mathlib.Core.Bool.{Bool, true, false, cond, ◌&&◌, not}
use mathlib.Core.List.{List, [], ◌∷◌, ◌++◌, map, flat_map, append-nil}
use native.Mathlib.Omega.{arith}
use lib.ListN.{length, take, drop, get_or, drop_of_length-le}
use borrow.Author.Rules.{rules}
use Rattle.text.specs.Ascii.{Bytes, ascii, byte}
use Rattle.text.specs.Compare.{same}
use Rattle.text.specs.Lists.{here}
use Rattle.text.specs.Scan.{split_at}
use Rattle.out.specs.Emit.{Out, emit, emit_append}
use Rattle.out.specs.declared.bytewise.Mode.{Mode}
use Rattle.out.specs.declared.bytewise.Mode.TheVariants as mode
use Rattle.out.specs.Bytewise.{becomes, flat, dotted, dotted_byte, flat_append, flat_two, flat_same}
use Rattle.out.specs.Items.{each}
use Rattle.names.specs.Laws.{dotted_map, dotted_none}
use Rattle.design.specs.Lists.{those}
use Rattle.design.specs.Paths.{scope_path, element_path}
use Rattle.texts.specs.Scope.{slash_of}
use Rattle.texts.specs.Setting.{slashed}
use Rattle.texts.specs.Supplies.{unrooted}
use Rattle.scope.specs.Parts.{parts, PartSeen}
use Rattle.scope.specs.declared.PartAt.{PartAt}
use Rattle.refs.specs.Text.{dot_of, as_dots}
use Rattle.refs.specs.Laws.{dots_step, dots_none}
use Rattle.format.specs.Args.{led, behind_top, rooted}
use Rattle.refs.specs.Heads.{is_there}

-- a byte in front
flat_first : (f : ℕ → Bytes) (o o₁ o₂ : Out) (c : ℕ) (t : Bytes) → o₂ ≡ emit o₁ (flat f t) → o₁ ≡ emit o (f c) → o₂ ≡ emit o (flat f (c ∷ t))
unfolding flat
flat_first f o o₁ o₂ c t h g = rw (emit_append, ← g) h

led_cons : (sep : ℕ) (d : Bool) (n : Bytes) (ns : List Bytes) → led sep d (n ∷ ns) ≡ (sep ∷ as_dots d n) ++ led sep d ns
unfolding each
led_cons sep d n ns = refl

-- ---- a slice, byte by byte

pub record Slices (f : ℕ → Bytes) (d : Bool) (p : Bytes) (w o : Out) (i : ℕ) : Type 0 where
  pub keeps : emit o (flat f (as_dots d (drop i p))) ≡ w

module _ (f : ℕ → Bytes) (d : Bool) (p : Bytes) (w o : Out) (i : ℕ) (inv : Slices f d p w o i) where
  pub slice_next : (c : ℕ) (o' : Out) → o' ≡ emit o (f c) → c ≡ dot_of d (get_or p i 0) → i < length p → Slices f d p w o' (i + 1)
  unfolding flat
  slice_next c o' g k h = record { keeps = rw g (rw (here p i h, dots_step d (get_or p i 0) (drop (i + 1) p), ← k, emit_append) at inv.keeps) }

  pub slice_done : length p ≤ i → o ≡ w
  unfolding flat emit
  slice_done h = rw (drop_of_length-le p {i = i} h, dots_none d) at inv.keeps

pub ruleset slices = (rules, slice_next, slice_done)

-- ---- a slice, as it stands

pub slice_same : (m : Mode) (d : Bool) (o w : Out) (p : Bytes) → w ≡ emit o p → m ≡ mode.Same → d ≡ false → w ≡ emit o (flat (becomes m) (as_dots d p))
slice_same m d o w p e h g = rw (h, g, flat_same) e

pub slice_flat : (m : Mode) (d : Bool) (o w : Out) (p : Bytes) → w ≡ emit o (flat (becomes m) p) → d ≡ false → w ≡ emit o (flat (becomes m) (as_dots d p))
slice_flat m d o w p e g = rw g e

pub ruleset wholes = (rules, slice_same, slice_flat)

-- ---- the parts, each with a byte before it

pub record Leads (f : ℕ → Bytes) (sep : ℕ) (d : Bool) (over : Bytes) (w o : Out) (i : ℕ) : Type 0 where
  pub keeps : emit o (flat f (led sep d (parts over i))) ≡ w

module _ (over : Bytes) (i : ℕ) (r : Option PartAt) (seen : PartSeen over i r) where
  no_part : r ≡ None → parts over i ≡ []
  no_part h = rw h at (sym seen.says)

  module _ (x : PartAt) (h : r ≡ Some x) where
    one_part : parts over i ≡ take x.len (drop x.at over) ∷ parts over x.next
    one_part = rw h at (sym seen.says)

    ahead : (i < x.next) × (x.next ≤ length over)
    ahead = rw h at seen.goes

    pub part_less : length over - x.next < length over - i
    part_less = omega (arith, ahead.0, ahead.1)

  module _ (f : ℕ → Bytes) (sep : ℕ) (d : Bool) (w o : Out) (inv : Leads f sep d over w o i) where
    pub lead_end : r ≡ None → o ≡ w
    unfolding flat emit each
    lead_end h = rw (no_part h) at inv.keeps

    pub lead_step : (x : PartAt) (p : Bytes) (o₁ o₂ : Out) → r ≡ Some x → o₂ ≡ emit o₁ (flat f (as_dots d p)) → o₁ ≡ emit o (f sep) → p ≡ take x.len (drop x.at over) → Leads f sep d over w o₂ x.next
    lead_step x p o₁ o₂ h g e k =
        let q : led sep d (parts over i) ≡ (sep ∷ as_dots d p) ++ led sep d (parts over x.next) = rw (k, one_part x h) (led_cons sep d (take x.len (drop x.at over)) (parts over x.next)) in
        let z : o₂ ≡ emit o (flat f (sep ∷ as_dots d p)) = flat_first f o o₁ o₂ sep (as_dots d p) g e in
        record { keeps = rw z (sym (ap (emit o) (flat_append f (sep ∷ as_dots d p) (led sep d (parts over x.next))) ∙ emit_append o (flat f (sep ∷ as_dots d p)) (flat f (led sep d (parts over x.next)))) ∙ (rw q at inv.keeps)) }

  -- whether there is one
  pub there_none : r ≡ None → false ≡ is_there (parts over i)
  there_none h = rw (no_part h)

  pub there_one : (x : PartAt) → r ≡ Some x → true ≡ is_there (parts over i)
  there_one x h = rw (one_part x h)

flat_each : (g : Bytes → Bytes) (ns : List Bytes) → flat_map g ns ≡ each g ns
unfolding flat_map each
flat_each g [] = refl
flat_each g (n ∷ ns) = rw (flat_each g ns)

-- ---- the parts with dots between them

module _ (f : ℕ → Bytes) (over : Bytes) (i : ℕ) (r : Option PartAt) (seen : PartSeen over i r) (o : Out) where
  pub path_end : r ≡ None → o ≡ emit o (flat f (scope_path (parts over i)))
  unfolding flat emit
  path_end h = rw (no_part over i r seen h)

  pub path_more : (x : PartAt) (p : Bytes) (o₁ o₂ : Out) → r ≡ Some x → o₂ ≡ emit o₁ (flat f (led (byte ".") false (parts over x.next))) → o₁ ≡ emit o (flat f (as_dots false p)) → p ≡ take x.len (drop x.at over) → o₂ ≡ emit o (flat f (scope_path (parts over i)))
  path_more x p o₁ o₂ h g e k =
      rw (one_part over i r seen x h, ← k, flat_each (λ (m : Bytes). byte "." ∷ m) (parts over x.next)) (flat_two f o o₁ o₂ p (led (byte ".") false (parts over x.next)) g e)

pub ruleset leads = (rules, part_less, lead_end, lead_step, there_none, there_one, path_end, path_more)

-- ---- a name below the scope, with dots

-- no part of an override is empty
path_there : (xs : List Bytes) → is_there (those (λ (q : Bytes). not (same q [])) xs) ≡ is_there (scope_path (those (λ (q : Bytes). not (same q [])) xs))
unfolding those same
path_there [] = refl
path_there ([] ∷ xs) = path_there xs
path_there ((b ∷ x) ∷ xs) = refl

element_is : (p t : Bytes) → (s : List Bytes) → scope_path s ≡ p → element_path s t ≡ cond (is_there p && is_there t) (p ++ (byte "." ∷ as_dots true t)) (p ++ as_dots true t)
element_is [] [] s e = e ∙ sym dotted_none
element_is (b ∷ p) [] s e = e ∙ sym (rw dotted_none (append-nil (b ∷ p)))
element_is [] (c ∷ t) s e = rw e (sym (dotted_map (c ∷ t)))
element_is (b ∷ p) (c ∷ t) s e = rw e (ap (λ (x : Bytes). (b ∷ p) ++ (byte "." ∷ x)) (sym (dotted_map (c ∷ t))))

module _ (f : ℕ → Bytes) (over : Bytes) (from : ℕ) (t : Bytes) (o o₁ o₃ : Out) (e₁ : o₁ ≡ emit o (flat f (scope_path (parts over from)))) (x y : Bool) (h : x ≡ is_there (parts over from)) (g : y ≡ is_there t) where
  hier_is : (z : Bool) → x && y ≡ z → element_path (parts over from) t ≡ cond z (scope_path (parts over from) ++ (byte "." ∷ as_dots true t)) (scope_path (parts over from) ++ as_dots true t)
  hier_is z k =
      let q : is_there (scope_path (parts over from)) ≡ x = sym (h ∙ path_there (split_at (byte "/") (map slash_of (drop from over)))) in
      element_is (scope_path (parts over from)) t (parts over from) refl ∙ rw (q, ← g, k)

  pub hier_dot : (o₂ : Out) → o₃ ≡ emit o₂ (flat f (as_dots true t)) → o₂ ≡ emit o₁ (f (byte ".")) → x && y ≡ true → o₃ ≡ emit o (flat f (element_path (parts over from) t))
  hier_dot o₂ e₃ e₂ k = rw (hier_is true k) (flat_two f o o₁ o₃ (scope_path (parts over from)) (byte "." ∷ as_dots true t) (flat_first f o₁ o₂ o₃ (byte ".") (as_dots true t) e₃ e₂) e₁)

  pub hier_bare : o₃ ≡ emit o₁ (flat f (as_dots true t)) → x && y ≡ false → o₃ ≡ emit o (flat f (element_path (parts over from) t))
  hier_bare e₃ k = rw (hier_is false k) (flat_two f o o₁ o₃ (scope_path (parts over from)) (as_dots true t) e₃ e₁)

pub ruleset hiers = (rules, hier_dot, hier_bare)

-- ---- a name below the scope, from the top on

dots_append : (d : Bool) (p q : Bytes) → as_dots d (p ++ q) ≡ as_dots d p ++ as_dots d q
dots_append true p q = flat_append dotted_byte p q
dots_append false p q = refl

dots_led : (d : Bool) (ns : List Bytes) → as_dots d (each (λ (n : Bytes). ascii "/" ++ n) ns) ≡ led (dot_of d (byte "/")) d ns
unfolding each
dots_led d [] = dots_none d
dots_led d (n ∷ ns) = dots_append d (byte "/" ∷ n) (each (λ (n : Bytes). ascii "/" ++ n) ns) ∙ rw (dots_step d (byte "/") n, dots_led d ns)

slashed_some : (t : Bytes) → is_there t ≡ true → slashed t ≡ byte "/" ∷ t
slashed_some [] h = absurd (let z : ◌≡◌ {A = ℕ} 0 1 = ap (λ (b : Bool). cond b 1 0) h in omega arith)
slashed_some (b ∷ t) h = refl

slashed_none : (t : Bytes) → is_there t ≡ false → slashed t ≡ []
slashed_none [] h = refl
slashed_none (b ∷ t) h = absurd (let z : ◌≡◌ {A = ℕ} 1 0 = ap (λ (b : Bool). cond b 1 0) h in omega arith)

module _ (f : ℕ → Bytes) (d : Bool) (scope : List Bytes) (t : Bytes) (o o₁ : Out) (s : ℕ) (e₁ : o₁ ≡ emit o (flat f (led s d scope))) (q : s ≡ dot_of d (byte "/")) (y : Bool) (g : y ≡ is_there t) where
  led_is : o₁ ≡ emit o (flat f (as_dots d (each (λ (n : Bytes). ascii "/" ++ n) scope)))
  led_is = rw (dots_led d scope, ← q) e₁

  pub below_more : (s' : ℕ) (o₂ o₃ : Out) → o₃ ≡ emit o₂ (flat f (as_dots d t)) → o₂ ≡ emit o₁ (f s') → s' ≡ dot_of d (byte "/") → y ≡ true → o₃ ≡ emit o (flat f (as_dots d (behind_top scope t)))
  below_more s' o₂ o₃ e₃ e₂ q' k =
      rw (slashed_some t (sym g ∙ k), dots_append d (each (λ (n : Bytes). ascii "/" ++ n) scope) (byte "/" ∷ t), dots_step d (byte "/") t)
      (flat_two f o o₁ o₃ (as_dots d (each (λ (n : Bytes). ascii "/" ++ n) scope)) (dot_of d (byte "/") ∷ as_dots d t) (flat_first f o₁ o₂ o₃ (dot_of d (byte "/")) (as_dots d t) e₃ (rw (← q') e₂)) led_is)

  pub below_none : y ≡ false → o₁ ≡ emit o (flat f (as_dots d (behind_top scope t)))
  below_none k = rw (slashed_none t (sym g ∙ k), append-nil) led_is

pub ruleset belows = (rules, below_more, below_none)

module _ (f : ℕ → Bytes) (top : Bytes) (scope : List Bytes) (t : Bytes) (o : Out) where
  pub rooted_all : (o₁ o₂ o₃ : Out) → o₃ ≡ emit o₂ (flat f (as_dots false (behind_top scope t))) → o₂ ≡ emit o₁ (flat f (as_dots false top)) → o₁ ≡ emit o (f (byte "/")) → o₃ ≡ emit o (flat f (rooted top scope t))
  rooted_all o₁ o₂ o₃ e₃ e₂ e₁ = flat_first f o o₁ o₃ (byte "/") (top ++ behind_top scope t) (flat_two f o₁ o₂ o₃ top (behind_top scope t) e₃ e₂) e₁

  pub dots_all : (o₂ o₃ : Out) → o₃ ≡ emit o₂ (flat f (as_dots true (behind_top scope t))) → o₂ ≡ emit o (flat f (as_dots true top)) → o₃ ≡ emit o (flat f (dotted (unrooted (rooted top scope t))))
  dots_all o₂ o₃ e₃ e₂ = rw (dots_append true top (behind_top scope t)) (flat_two f o o₂ o₃ (as_dots true top) (as_dots true (behind_top scope t)) e₃ e₂)

pub ruleset roots = (rules, rooted_all, dots_all)
