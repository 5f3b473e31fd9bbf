-- Whether the first part of a text surely is not a name: laws as the needs ask them. Assumes nothing.
use Rattle.std.specs.Prelude.{Some}
use Prim.Native.Nat.{ℕ, ◌+◌, ◌<◌, ◌^◌}
use native.Mathlib.Omega.{arith}
use mathlib.Core.Path.{◌≡◌, refl, sym, ap, ◌∙◌}
use mathlib.Core.Bool.{Bool, true, false, cond, not, ◌||◌}
use Rattle.std.specs.Prelude.{None}
use mathlib.Core.List.{[], ◌∷◌, ◌++◌}
use lib.Dec.{eqb}
use lib.ListN.{length, take, drop, get_or}
use borrow.Author.Rules.{rules}
use borrow.Author.Tests.{eqb-true, eqb-false, eq-eqb, ne_eqb}
use Rattle.text.specs.Ascii.{Bytes, byte}
use Rattle.text.specs.Compare.{same}
use Rattle.text.specs.Lists.{here}
use Rattle.text.specs.Sames.{both, no_true}
use Rattle.spans.specs.Span.{bytes, got_of}
use Rattle.spans.specs.declared.span.Span.{Span}
use Rattle.tcl.specs.Rewrite.{rewrite}
use Rattle.tcl.specs.Join.{joint_by, joined_by, join}
use Rattle.tcl.specs.Substitution.{escape, unescape}
use Rattle.names.specs.Name.{entry_of, slash, name_of}
use Rattle.names.specs.declared.name.Form.{Form}
use Rattle.names.specs.declared.name.Form.TheVariants.{Word, Entry, Quoted}
use Rattle.names.specs.Parts.{parts, behind, onto_first_lem, onto_others, parts_on}
use Rattle.refs.specs.Text.{text_of}
use Rattle.refs.specs.declared.Ref.{Ref}
use Rattle.targets.specs.Off.{WordOff, begins_plain, TextOff}

-- ---- a byte that is no backslash is read as it stands in every form

join_plain : (b : ℕ) (l : Bytes) → eqb b (byte "\\") ≡ false → join (b ∷ l) ≡ b ∷ join l
unfolding rewrite joint_by joined_by
join_plain b l e = rw e

unescape_plain : (b : ℕ) (l : Bytes) → eqb b (byte "\\") ≡ false → unescape (b ∷ l) ≡ b ∷ unescape l
unfolding rewrite escape
unescape_plain b [] e = refl
unescape_plain b (x ∷ l) e = rw e

entry_plain : (f : Form) (b : ℕ) (l : Bytes) → eqb b (byte "\\") ≡ false → entry_of f (b ∷ l) ≡ b ∷ entry_of f l
entry_plain Word b l e = refl
entry_plain Entry b l e = join_plain b l e
entry_plain Quoted b l e = ap (λ (m : Bytes). unescape m) (join_plain b l e) ∙ unescape_plain b (join l) e

neither : (a b : Bool) → a || b ≡ false → (a ≡ false) × (b ≡ false)
neither true b e = absurd (no_true (sym e))
neither false true e = absurd (no_true (sym e))
neither false false e = (refl, refl)

-- ---- what is left of the word is compared with what is left of w

pub record Goes (mem : Bytes) (s : Span) (w : Bytes) (x : Span) (i : ℕ) : Type 0 where
  pub keeps : (f : Form) (q : Bytes) → behind w (parts (entry_of f (bytes mem s) ++ q)) ≡ behind (drop i w) (parts (entry_of f (bytes mem x) ++ q))
  pub short : length w < 2 ^ 64

pub goes_start : (mem : Bytes) (s : Span) (w : Bytes) → length w < 2 ^ 64 → Goes mem s w s 0
goes_start mem s w h = record { keeps = λ f q. refl; short = h }

pub word_not : (mem : Bytes) (s : Span) (w : Bytes) → WordOff mem s w false
word_not mem s w = record { is = λ e. absurd (no_true e) }

module _ (mem : Bytes) (s : Span) (w : Bytes) (x : Span) (i : ℕ) (inv : Goes mem s w x i) (h : i < length w) where
  pub goes_fits : i + 1 < 2 ^ 64
  goes_fits = omega (arith, inv.short)

  module _ (b : ℕ) (u : Span) (e : bytes mem x ≡ got_of mem (Some (b, u))) (plain : eqb b (byte "\\") || eqb b (byte "/") ≡ false) where
    left_is : (f : Form) → entry_of f (bytes mem x) ≡ b ∷ entry_of f (bytes mem u)
    left_is f = ap (λ (l : Bytes). entry_of f l) e ∙ entry_plain f b (bytes mem u) (neither (eqb b (byte "\\")) (eqb b (byte "/")) plain).0

    no_slash : b ≡ byte "/" → ⊥
    no_slash = eqb-false b (byte "/") (neither (eqb b (byte "\\")) (eqb b (byte "/")) plain).1

    pub word_stop : (b ≡ get_or w i 0 → ⊥) → WordOff mem s w true
    unfolding same
    word_stop z = record { is = λ _. λ f q. sym (inv.keeps f q ∙ rw (left_is f, parts_on b (entry_of f (bytes mem u) ++ q) no_slash, onto_first_lem, here w i h, ne_eqb b (get_or w i 0) z)) }

    pub word_step : b ≡ get_or w i 0 → Goes mem s w u (i + 1)
    unfolding same
    word_step z = record { keeps = λ f q. inv.keeps f q ∙ rw (left_is f, parts_on b (entry_of f (bytes mem u) ++ q) no_slash, onto_first_lem, onto_others, here w i h, eq-eqb b (get_or w i 0) z); short = inv.short }

pub ruleset goes = (rules, word_not, goes_fits, word_stop, word_step)

-- ---- of a text

pub text_not : (mem : Bytes) (x : Ref) (w : Bytes) → TextOff mem x w false
text_not mem x w = record { is = λ e. absurd (no_true e) }

no_is : (b : Bool) → not b ≡ true → b ≡ false
no_is true h = absurd (no_true h)
no_is false h = refl

yes_is : (b : Bool) → not b ≡ false → b ≡ true
yes_is true h = refl
yes_is false h = absurd (no_true (sym h))

pub text_by : (mem : Bytes) (x : Ref) (w : Bytes) (o r : Bool) → o ≡ begins_plain x → not o ≡ false → WordOff mem x.name.word w r → TextOff mem x w r
unfolding text_of name_of bytes
text_by mem x w o r e h d =
    let k = both (not x.cut) _ (sym e ∙ yes_is o h) in
    let n = both (eqb x.name.scope.len 0) (not x.name.sep) k.1 in
    let i : x.name.scope.len ≡ 0 = eqb-true _ _ n.0 in
    record { is = λ t. λ job. rw (no_is x.cut k.0, i, no_is x.name.sep n.1) (d.is t x.name.form (slash x.sep ++ (name_of mem x.last ++ take x.len (drop x.at job)))) }

pub ruleset texts = (rules, text_not, text_by)

pub off_other : (job mem : Bytes) (x : Ref) (w : Bytes) (r : Bool) → TextOff mem x w r → r ≡ true → None ≡ behind w (parts (text_of job mem x))
off_other job mem x w r o h = o.is h job

pub ruleset offs = (rules, off_other)
