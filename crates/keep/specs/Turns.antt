-- Laws: what is gained, turn by turn. What the whole comes to is what was gained so far and what is left; more ports than allowed stay too many.
-- Assumes nothing.
use Rattle.std.specs.Prelude.{ℕ, suc, ◌+◌, ◌≤◌, ◌<◌, min, ◌≡◌, refl, Bool, true, false, cond, List, [], ◌∷◌, ◌++◌, ltb, length}
use Rattle.std.proofs.Common.{arith, sym, ap, ◌∙◌, append-nil, ltb-true, ltb-false}
use Rattle.text.specs.Ascii.{Bytes}
use Rattle.text.specs.Sames.{no_true}
use Rattle.out.specs.Emit.{Out, ◌▸◌, emit, emit_append}
use Rattle.out.specs.Items.{each}
use Rattle.texts.specs.Texts.{warning_line}
use Rattle.texts.specs.Laws.{each_append}
use Rattle.isolated.specs.Table.{Kept, kept_in}
use Rattle.keep.specs.Gains.{Gain, stay, behind, behind_assoc}
use Rattle.keep.specs.Covered.{more, counted, Ready, said_by, said, Answer}
use Rattle.keep.specs.declared.Cover.{Cover}

-- ---- warnings

pub counted_append : (n : ℕ) (a b : List Bytes) → counted n (a ++ b) ≡ counted (counted n a) b
unfolding counted
counted_append n [] b = refl
counted_append n (w ∷ a) b = counted_append (more n) a b

-- up to 512 it is their number
pub counted_is : (n : ℕ) (a : List Bytes) → n ≤ 513 → counted n a ≡ min (n + length a) 513
unfolding counted more
counted_is n [] h = omega arith
counted_is n (w ∷ a) h = go (ltb n 513) refl (λ k l. counted_is k a l)
  where
    go : (b : Bool) → ltb n 513 ≡ b → ((k : ℕ) → k ≤ 513 → counted k a ≡ min (k + length a) 513) → counted (cond b (n + 1) n) a ≡ min (n + suc (length a)) 513
    go true e r = r (n + 1) (omega (arith, ltb-true n 513 e)) ∙ omega arith
    go false e r = r n h ∙ omega (arith, ltb-false n 513 e)

pub said_behind : (warn : Bool) (a b : Gain) → said warn (behind a b) ≡ said warn a ++ said warn b
said_behind true a b = each_append warning_line a.remarks b.remarks
said_behind false a b = refl

pub said_none : (warn : Bool) → said_by warn [] [] ≡ []
unfolding each
said_none true = refl
said_none false = refl

-- ---- turns

-- the whole comes to `all`: `left` is left, by the ports that are kept
pub record Turn (job mem : Bytes) (warn : Bool) (c₀ : Cover) (out₀ : Bytes) (all : Gain) (c : Cover) (out : Bytes) (ports : List ℕ) (left : List Kept → Gain) : Type 0 where
  pub ready : Ready c ports
  pub so_far : Gain
  pub rows : kept_in job mem ports c.ports ≡ so_far.rows
  pub warnings : c.warnings ≡ counted c₀.warnings so_far.remarks
  pub text : out ▸ c.at ≡ emit (out₀ ▸ c₀.at) (said warn so_far)
  pub keeps : behind so_far (left so_far.rows) ≡ all

module _ (job mem : Bytes) (warn : Bool) where
  pub turn_start : (c : Cover) (out : Bytes) (ports : List ℕ) (f : List Kept → Gain) → Ready c ports → Turn job mem warn c out (f (kept_in job mem ports c.ports)) c out ports f
  unfolding emit counted
  turn_start c out ports f r =
      record {
        ready = r;
        so_far = stay (kept_in job mem ports c.ports);
        rows = refl;
        warnings = refl;
        text = rw (said_none warn);
        keeps = refl;
      }

  -- nothing gained
  pub answer_stay : (c : Cover) (out : Bytes) (ports : List ℕ) → Ready c ports → Answer job mem warn c out (stay (kept_in job mem ports c.ports)) c out ports
  unfolding emit counted
  answer_stay c out ports r =
      record {
        ready = λ o. r;
        rows = λ o. refl;
        warnings = λ o. refl;
        text = λ o. rw (said_none warn);
        refused = λ o. absurd (no_true (sym r.going ∙ o));
      }

  module _ (c₀ : Cover) (out₀ : Bytes) (all : Gain) (c : Cover) (out : Bytes) (ports : List ℕ) (left : List Kept → Gain) (t : Turn job mem warn c₀ out₀ all c out ports left) where
    -- nothing is left
    pub turn_end : ((l : List Kept) → left l ≡ stay l) → Answer job mem warn c₀ out₀ all c out ports
    turn_end e =
        let k : behind t.so_far (stay t.so_far.rows) ≡ all = ap (behind t.so_far) (sym (e t.so_far.rows)) ∙ t.keeps in
        let a : t.so_far ≡ all = sym (whole t.so_far) ∙ k in
        record {
          ready = λ o. t.ready;
          rows = λ o. t.rows ∙ ap (λ (g : Gain). g.rows) a;
          warnings = λ o. t.warnings ∙ ap (λ (g : Gain). counted c₀.warnings g.remarks) a;
          text = λ o. t.text ∙ ap (λ (g : Gain). emit (out₀ ▸ c₀.at) (said warn g)) a;
          refused = λ o. absurd (no_true (sym t.ready.going ∙ o));
        }
      where
        whole : (g : Gain) → behind g (stay g.rows) ≡ g
        whole g = rw (append-nil g.report, append-nil g.remarks)

    -- f is gained of what is left, and then g
    module _ (f g : List Kept → Gain) (split : (l : List Kept) → left l ≡ behind (f l) (g (f l).rows)) (r : Cover) (out' : Bytes) (ports' : List ℕ) (a : Answer job mem warn c out (f (kept_in job mem ports c.ports)) r out' ports') where
      abbrev f_so_far : Gain
      f_so_far = f t.so_far.rows

      at_rows : f (kept_in job mem ports c.ports) ≡ f t.so_far.rows
      at_rows = ap f t.rows

      whole_is : behind (behind t.so_far f_so_far) (g f_so_far.rows) ≡ all
      whole_is = behind_assoc t.so_far f_so_far (g f_so_far.rows) ∙ ap (behind t.so_far) (sym (split t.so_far.rows)) ∙ t.keeps

      pub turn_stop : ((l : List Kept) → length l ≤ length (g l).rows) → r.over ≡ true → Answer job mem warn c₀ out₀ all r out' ports'
      turn_stop grows o =
          let h : 256 < length f_so_far.rows = rw at_rows at (a.refused o) in
          let e : (g f_so_far.rows).rows ≡ all.rows = ap (λ (x : Gain). x.rows) whole_is in
          record {
            ready = λ n. absurd (no_true (sym n ∙ o));
            rows = λ n. absurd (no_true (sym n ∙ o));
            warnings = λ n. absurd (no_true (sym n ∙ o));
            text = λ n. absurd (no_true (sym n ∙ o));
            refused = λ n. rw (← e) (omega (arith, h, grows f_so_far.rows));
          }

      pub turn_next : r.over ≡ false → Turn job mem warn c₀ out₀ all r out' ports' g
      turn_next o =
          record {
            ready = a.ready o;
            so_far = behind t.so_far f_so_far;
            rows = a.rows o ∙ ap (λ (x : Gain). x.rows) at_rows;
            warnings =
                a.warnings o
                ∙ ap (λ (x : Gain). counted c.warnings x.remarks) at_rows
                ∙ ap (λ (m : ℕ). counted m f_so_far.remarks) t.warnings
                ∙ sym (counted_append c₀.warnings t.so_far.remarks f_so_far.remarks);
            text =
                a.text o
                ∙ ap (λ (x : Gain). emit (out ▸ c.at) (said warn x)) at_rows
                ∙ ap (λ (w : Out). emit w (said warn f_so_far)) t.text
                ∙ sym (emit_append (out₀ ▸ c₀.at) (said warn t.so_far) (said warn f_so_far))
                ∙ ap (emit (out₀ ▸ c₀.at)) (sym (said_behind warn t.so_far f_so_far));
            keeps = whole_is;
          }
