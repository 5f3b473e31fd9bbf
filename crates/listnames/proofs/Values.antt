-- A value whole, and its entries one by one: laws as the needs ask them. Assumes nothing.
use Rattle.std.specs.Prelude.{Option, Some, None}
use Prim.Native.Nat.{ℕ, zero, suc, ◌+◌, ◌-◌, ◌≤◌, ◌<◌, ◌^◌, max}
use native.Mathlib.Omega.{arith}
use mathlib.Core.Path.{◌≡◌, refl, sym, ap, ◌∙◌}
use mathlib.Core.Bool.{Bool, true, false}
use mathlib.Core.List.{List, [], ◌∷◌, ◌++◌}
use lib.Dec.{eqb}
use lib.ListN.{length, take, drop}
use borrow.Author.Rules.{rules}
use Rattle.text.specs.Ascii.{Bytes, byte}
use Rattle.text.specs.Scan.{Ends, up_to, before}
use Rattle.spans.specs.Span.{◌⋯◌, bytes}
use Rattle.spans.specs.Reach.{Held}
use Rattle.spans.specs.declared.span.Span.{Span}
use Rattle.tcl.specs.Lists.{list}
use Rattle.tcl.specs.Rewrite.{rewrite}
use Rattle.tcl.specs.Join.{joint_by, joined_by, join}
use Rattle.tcl.specs.Substitution.{escape, unescape}
use Rattle.entries.specs.Entry.{entry_bytes, entries_left}
use Rattle.entries.specs.View.{Finds}
use Rattle.entries.specs.Loops.{entries_none, entries_first}
use Rattle.entries.specs.declared.item.Item.{Item}
use Rattle.model.specs.Commands.{nth}
use Rattle.names.specs.Scoped.{scoped}
use Rattle.names.specs.Name.{named, name_of, entry_of, Makes}
use Rattle.names.specs.declared.name.Name.{Name}
use Rattle.names.specs.declared.name.Form.{Form}
use Rattle.names.specs.declared.name.Form.TheVariants.{Word, Entry, Quoted}
use Rattle.names.specs.Frame.{alone_is}
use Rattle.listnames.specs.Lists.{form_of, form_is, nth_below, Whole, Known}
use Rattle.listnames.specs.Inside.{inside_fits, inside_ends, inside_formed}

pub form_quoted : (q : Bool) → q ≡ true → Quoted ≡ form_of q
form_quoted q h = rw h

pub form_plain : (q : Bool) → q ≡ false → Entry ≡ form_of q
form_plain q h = rw h

-- an entry without a backslash is as it stands

join_same : (w : Bytes) → length w ≤ up_to (byte "\\") w → join w ≡ w
unfolding before rewrite joint_by joined_by
join_same [] h = refl
join_same (x ∷ l) h = go (eqb x (byte "\\")) refl (λ k. join_same l k)
  where
    go : (b : Bool) → eqb x (byte "\\") ≡ b → (length l ≤ up_to (byte "\\") l → join l ≡ l) → join (x ∷ l) ≡ x ∷ l
    go true e r = absurd (omega (arith, rw e at h))
    go false e r = let k : suc (length l) ≤ suc (up_to (byte "\\") l) = rw e at h in rw e (ap (λ (m : Bytes). x ∷ m) (r (omega (arith, k))))

unescape_same : (w : Bytes) → length w ≤ up_to (byte "\\") w → unescape w ≡ w
unfolding before rewrite escape
unescape_same [] h = refl
unescape_same (x ∷ []) h = refl
unescape_same (x ∷ y ∷ l) h = go (eqb x (byte "\\")) refl (λ k. unescape_same (y ∷ l) k)
  where
    go : (b : Bool) → eqb x (byte "\\") ≡ b → (length (y ∷ l) ≤ up_to (byte "\\") (y ∷ l) → unescape (y ∷ l) ≡ y ∷ l) → unescape (x ∷ y ∷ l) ≡ x ∷ y ∷ l
    go true e r = absurd (omega (arith, rw e at h))
    go false e r = let k : suc (length (y ∷ l)) ≤ suc (up_to (byte "\\") (y ∷ l)) = rw e at h in rw e (ap (λ (m : Bytes). x ∷ m) (r (omega (arith, k))))

as_it_stands : (q : Bool) (w : Bytes) → length w ≤ up_to (byte "\\") w → w ≡ entry_bytes q w
as_it_stands true w h = sym (ap (λ (m : Bytes). unescape m) (join_same w h) ∙ unescape_same w h)
as_it_stands false w h = sym (join_same w h)

module _ (text : Bytes) (s : Span) (q : Bool) where
  pub formed_slow : (r : Form) → r ≡ form_of q → entry_of r (bytes text s) ≡ entry_bytes q (bytes text s)
  formed_slow r e = rw e (form_is q (bytes text s))

  pub formed_plain : (w : Bytes) (i : ℕ) → w ≡ take s.len (drop s.at text) → Ends (0 + up_to (byte "\\") (drop 0 w)) (length w) i → length w ≤ i → entry_of Word (bytes text s) ≡ entry_bytes q (bytes text s)
  unfolding bytes
  formed_plain w i e g h = rw (← e) (as_it_stands q w (omega (arith, g.is_at)))

pub ruleset forms = (rules, form_quoted, form_plain, formed_slow, formed_plain)

-- ---- the k-th

empty_name : (mem : Bytes) → name_of mem (named (0 ⋯ 0) false (0 ⋯ 0) Word) ≡ []
unfolding name_of bytes
empty_name mem = refl

abbrev head_of : List Bytes → Bytes
head_of [] = []
head_of (e ∷ es) = e

abbrev below_of_lem : Bytes → List Bytes → Bytes
below_of_lem scope [] = []
below_of_lem scope (e ∷ es) = scoped scope e

nth_head : (k : ℕ) (es : List Bytes) → nth k es ≡ head_of (drop k es)
nth_head zero [] = refl
nth_head (suc k) [] = refl
nth_head zero (e ∷ es) = refl
nth_head (suc k) (e ∷ es) = nth_head k es

nth_below_lem : (scope : Bytes) (k : ℕ) (es : List Bytes) → nth_below scope k es ≡ below_of_lem scope (drop k es)
unfolding nth_below
nth_below_lem scope zero [] = refl
nth_below_lem scope (suc k) [] = refl
nth_below_lem scope zero (e ∷ es) = refl
nth_below_lem scope (suc k) (e ∷ es) = nth_below_lem scope k es

module _ (files area : Bytes) (v : Span) (k : ℕ) (whole : Whole (length files) v) (text : Bytes) (value : Held (length files) v → text ≡ bytes (files ++ area) v) (r : Option Item) (f : Finds text (drop k (list text)) r) where
  abbrev mem : Bytes
  mem = files ++ area

  is : text ≡ bytes mem v
  is = value whole.held

  no_entry : r ≡ None → drop k (list (bytes mem v)) ≡ []
  no_entry g = rw (← is) (entries_none text (drop k (list text)) r f g)

  pub nth_missing : (x : Name) → r ≡ None → x ≡ named (0 ⋯ 0) false (0 ⋯ 0) Word → Known (files ++ area) (nth k (list (bytes (files ++ area) v))) (v.at + v.len) x
  nth_missing x g e = record { is = rw e (empty_name mem ∙ sym (nth_head k (list (bytes mem v)) ∙ ap head_of (no_entry g))); ends = rw e (omega arith) }

  pub below_missing : (scope : Span) (x : Name) → r ≡ None → x ≡ named (0 ⋯ 0) false (0 ⋯ 0) Word → Known (files ++ area) (nth_below (bytes (files ++ area) scope) k (list (bytes (files ++ area) v))) (max (scope.at + scope.len) (v.at + v.len)) x
  below_missing scope x g e = record { is = rw e (empty_name mem ∙ sym (nth_below_lem (bytes mem scope) k (list (bytes mem v)) ∙ ap (below_of_lem (bytes mem scope)) (no_entry g))); ends = rw e (omega arith) }

  module _ (i : Item) (g : r ≡ Some i) (w : Span) (ew : w ≡ (v.at + i.entry.at) ⋯ i.entry.len) (form : Form) (ef : entry_of form (bytes text i.entry) ≡ entry_bytes i.quoted (bytes text i.entry)) where
    one_entry : drop k (list (bytes mem v)) ≡ entry_of form (bytes mem w) ∷ entries_left false (drop i.next text)
    one_entry =
        let p : drop k (list (bytes mem v)) ≡ entry_bytes i.quoted (bytes text i.entry) ∷ entries_left false (drop i.next text) = rw (← is) (entries_first text (drop k (list text)) r f i.entry i.quoted i.next g) in
        let z : entry_of form (bytes mem w) ≡ entry_bytes i.quoted (bytes text i.entry) = rw ew (inside_formed mem v text is (drop k (list text)) r f i.entry i.quoted i.next g form ef) in
        p ∙ ap (λ (b : Bytes). b ∷ entries_left false (drop i.next text)) (sym z)

    w_ends : w.at + w.len ≤ v.at + v.len
    w_ends = rw ew (inside_ends mem v text is (drop k (list text)) r f i.entry i.quoted i.next g)

    pub nth_there : (x : Name) → x ≡ named (0 ⋯ 0) false w form → Known (files ++ area) (nth k (list (bytes (files ++ area) v))) (v.at + v.len) x
    nth_there x ex = record { is = rw ex (alone_is mem w form ∙ sym (nth_head k (list (bytes mem v)) ∙ ap head_of one_entry)); ends = rw ex (omega (arith, w_ends)) }

    pub below_there : (scope : Span) (x : Name) → Makes (files ++ area) scope w form x → Known (files ++ area) (nth_below (bytes (files ++ area) scope) k (list (bytes (files ++ area) v))) (max (scope.at + scope.len) (v.at + v.len)) x
    below_there scope x m = record { is = m.is ∙ sym (nth_below_lem (bytes mem scope) k (list (bytes mem v)) ∙ ap (below_of_lem (bytes mem scope)) one_entry); ends = omega (arith, m.ends, w_ends) }

pub inside_whole : (files area : Bytes) (v : Span) (text : Bytes) (t : List Bytes) (r : Option Item) (i : Item) → r ≡ Some i → Finds text t r → (Held (length files) v → text ≡ bytes (files ++ area) v) → Whole (length files) v → v.at + i.entry.at < 2 ^ 64
inside_whole files area v text t r i g f is w = inside_fits (files ++ area) v text (is w.held) t r f i.entry i.quoted i.next g w.small
