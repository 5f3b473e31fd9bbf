-- The first byte of a declaration's value is that of its kind's spelling: a line whose byte is another's is passed over.
-- Assumes nothing.
use mathlib.Core.Path.{◌≡◌, refl, ◌∙◌, sym}
use Prim.Native.Nat.{ℕ, zero, suc, ◌+◌, ◌-◌, ◌<◌, ◌≤◌}
use Prim.Native.String.{String}
use native.Mathlib.Omega.{arith}
use mathlib.Core.Bool.{Bool, true, false, cond, not, ◌&&◌}
use mathlib.Core.List.{List, [], ◌∷◌}
use Rattle.std.specs.Prelude.{Option, None, Some}
use Rattle.std.proofs.lemmas.Option.{none-some, same_Some}
use lib.ListN.{take, drop, get_or}
use lib.Dec.{eqb}
use borrow.Author.Rules.{rules}
use borrow.Author.Tests.{not-true}
use Rattle.text.specs.Ascii.{Bytes, ascii, byte}
use Rattle.text.specs.Compare.{same, starts_with}
use Rattle.text.specs.Scan.{up_to, all}
use Rattle.text.specs.Lists.{drop_take, head_is}
use Rattle.text.specs.Sames.{both, same_eq}
use Rattle.fields.specs.Fields.{Kind, net, variable, odd, body, input, output, inout, ref, among, kind_of, dims_of, is_name}
use Rattle.fields.specs.Splits.{split_step}
use Rattle.joblines.specs.Job.{Decl}
use Rattle.joblines.specs.Lines.{when, fields, as_decl, decl_of}
use Rattle.joblines.specs.Sections.{formed, with_some, gather, decl_here, decls_in}
use Rattle.jobindex.specs.Index.{section}
use Rattle.lines.specs.Cursors.{Cut}
use Rattle.lines.specs.Steps.{Passed, passed_on}
use Rattle.ports.specs.declared.body.Pick.{Pick}
use Rattle.ports.specs.declared.body.Pick.TheVariants as pick
use Rattle.ports.specs.Bodies.{is_off, pick_is, picked, BodySeen}

-- what holds of every word of a table holds of the one that is found
among_all : {A : Type 0} (t : Bytes → A → Bool) (rs : List (String × A)) (w : Bytes) (a : A) → all (λ (r : String × A). t (ascii r.0) r.1) rs ≡ true → among rs w ≡ Some a → t w a ≡ true
unfolding all
among_all t [] w a h e = absurd (none-some a e)
among_all t (r ∷ rs) w a h e = let b = both (t (ascii r.0) r.1) _ h in go (same w (ascii r.0)) refl b.0 (λ f. among_all t rs w a b.1 f) e
  where
    go : (q : Bool) → same w (ascii r.0) ≡ q → t (ascii r.0) r.1 ≡ true → (among rs w ≡ Some a → t w a ≡ true) → cond q (Some r.1) (among rs w) ≡ Some a → t w a ≡ true
    go true s b f e = rw (same_eq w (ascii r.0) s, ← same_Some r.1 a e) b
    go false s b f e = f e

-- the table of `kind_of`
abbrev kinds : List (String × Kind)
kinds = ("net", net) ∷ ("data", variable) ∷ ("odd", odd) ∷ ("in", body input) ∷ ("out", body output) ∷ ("inout", body inout) ∷ ("ref", body ref) ∷ []

module _ (p : Pick) where
  -- a kind whose spelling begins so is not asked for
  kind_off : (w : Bytes) (k : Kind) (d : Bool) → kind_of w ≡ Some k → is_off p (get_or w 0 0) ≡ true → pick_is p k d ≡ false
  unfolding kind_of all
  kind_off w k d e h = not-true (pick_is p k d) (rw h at (among_all (λ w k. not (is_off p (get_or w 0 0) && pick_is p k d)) kinds w k (go p) e))
    where
      go : (p : Pick) → all (λ (r : String × Kind). not (is_off p (get_or (ascii r.0) 0 0) && pick_is p r.1 d)) kinds ≡ true
      go pick.Output = refl
      go pick.Other = refl
      go pick.Signal = refl

  -- a front begins so too; one of no bytes has none of the spellings' bytes
  front_off : (n : ℕ) (v : Bytes) → is_off p (get_or v 0 0) ≡ true → is_off p (get_or (take n v) 0 0) ≡ true
  front_off zero v h = go p
    where
      go : (p : Pick) → is_off p 0 ≡ true
      go pick.Output = refl
      go pick.Other = refl
      go pick.Signal = refl
  front_off (suc n) [] h = h
  front_off (suc n) (x ∷ v) h = h

  fields_off : (k : Bytes) (ks : List Bytes) → is_off p (get_or k 0 0) ≡ true → (ds : List Decl) → picked p (with_some (decl_of (k ∷ ks)) ds) ≡ picked p ds
  unfolding decl_of picked
  fields_off k [] h ds = refl
  fields_off k (d ∷ []) h ds = refl
  fields_off k (d ∷ n ∷ []) h ds = go (kind_of k) refl (dims_of d)
    where
      one : (x : Kind) (b : Bool) → pick_is p x b ≡ false → (t : Bool) → picked p (with_some (when t (record { kind = x; dims = b; name = n })) ds) ≡ picked p ds
      one x b f true = rw f
      one x b f false = refl

      go : (o : Option Kind) → kind_of k ≡ o → (b : Option Bool) → picked p (with_some (as_decl o b n) ds) ≡ picked p ds
      go None e b = refl
      go (Some x) e None = refl
      go (Some x) e (Some b) = one x b (kind_off k x b e h) (is_name n)
  fields_off k (d ∷ n ∷ m ∷ ks) h ds = refl

  -- a declaration line whose value begins so, or any other line
  line_off : (line : Bytes) → is_off p (get_or (drop 5 line) 0 0) ≡ true → (ds : List Decl) → picked p (with_some (decl_here line) ds) ≡ picked p ds
  unfolding decl_here
  line_off line h ds = go (starts_with (ascii "decl=") line)
    where
      v : Bytes
      v = drop 5 line

      go : (t : Bool) → picked p (with_some (formed (when t (decl_of (fields v)))) ds) ≡ picked p ds
      go true = rw (split_step (byte " ") v) (fields_off (take (up_to (byte " ") v) v) _ (front_off (up_to (byte " ") v) v h) ds)
      go false = refl

-- ---- the answers of the code
pub byte_is : (s : Bytes) (i : ℕ) (w : Bytes) → w ≡ drop i s → (r : ℕ) → r ≡ get_or w 5 0 → r ≡ get_or (drop i s) 5 0
byte_is s i w ew r er = er ∙ rw ew

module _ (p : Pick) (b : ℕ) where
  pub off_output : p ≡ pick.Output → not (eqb b (byte "o")) ≡ is_off p b
  off_output e = rw e

  pub off_other : p ≡ pick.Other → not (eqb b (byte "i")) && not (eqb b (byte "r")) ≡ is_off p b
  off_other e = rw e

  pub off_signal : p ≡ pick.Signal → not (eqb b (byte "n")) && not (eqb b (byte "d")) ≡ is_off p b
  off_signal e = rw e

pub ruleset offs = (rules, byte_is, off_output, off_other, off_signal)

-- ---- a line that is passed over: from i up to e; t is what its byte says
module _ (job : Bytes) (at end : ℕ) (p : Pick) (i : ℕ) (inv : picked p (decls_in (section job at end)) ≡ picked p (decls_in (section job i end))) (e : ℕ) (cut : Cut job i end e) where
  pub off_end : end ≤ e → BodySeen job at end p None
  unfolding picked gather
  off_end h = record { says = sym (inv ∙ rw (cut.none h)); goes = tt }

  pub off_less : e < end → end - (e + 1) < end - i
  off_less h = omega (arith, cut.from h)

  pub off_passed : e < end → Passed job at i → Passed job at (e + 1)
  off_passed h q = passed_on job at i (e + 1) q (omega (arith, cut.from h)) (cut.whole h)

  module _ (b : ℕ) (eb : b ≡ get_or (drop i job) 5 0) (t : Bool) (et : t ≡ is_off p b) where
    pub off_on : e < end → t ≡ true → picked p (decls_in (section job at end)) ≡ picked p (decls_in (section job (e + 1) end))
    unfolding gather
    off_on h g = inv ∙ rw (cut.line h) (line_off p (section job i e) value (decls_in (section job (e + 1) end)))
      where
        value : is_off p (get_or (drop 5 (section job i e)) 0 0) ≡ true
        value = rw (drop_take 5 (e - i) (drop i job)) (front_off p (e - i - 5) (drop 5 (drop i job)) (rw (head_is (drop i job) 5, ← eb, ← et) g))

pub ruleset off_turns = (rules, off_end, off_less, off_passed, off_on)
