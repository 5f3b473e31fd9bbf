-- The loop over the domains: laws as the needs ask them. Assumes nothing.
use Prim.Native.Nat.{ℕ, ◌+◌, ◌≤◌, ◌<◌}
use mathlib.Core.Path.{◌≡◌, refl, sym, ap, ◌∙◌}
use mathlib.Core.Bool.{Bool, false, ◌&&◌}
use Rattle.std.specs.Prelude.{Result, Ok, Err, IsErrAnd}
use mathlib.Core.List.{List, [], ◌∷◌, ◌++◌, map}
use native.Mathlib.Omega.{arith}
use lib.ListN.{length, take, drop, get_or}
use Rattle.text.specs.Ascii.{Bytes}
use Rattle.text.specs.Scan.{all}
use Rattle.out.specs.Emit.{Out, ◌▸◌, emit, emit_append}
use Rattle.out.specs.Items.{each}
use Rattle.model.specs.Records.{Domain as Domainʳ}
use Rattle.texts.specs.Setting.{Setting}
use Rattle.texts.specs.Isolation.{Isolated}
use Rattle.texts.specs.Domains.{domain_glue, domain_line, domain_fits}
use Rattle.store.specs.View.{domain_of, model_of}
use Rattle.store.specs.Order.{of_domain}
use Rattle.store.specs.Rows.{store_of}
use Rattle.store.specs.Tables.{within_get}
use Rattle.store.specs.declared.state.Domain.{Domain}
use Rattle.store.specs.declared.state.State.{State}
use Rattle.made.specs.Made.{reach_of}
use Rattle.setting.specs.Orders.{domains_hold, holds_few, holds_long, holds_at, holds_next, holds_end}
use Rattle.setting.specs.Stands.{Stands}
use Rattle.domainlists.specs.Seen.{elements_few}
use Rattle.listing.specs.declared.TooMany.{TooMany}
use Rattle.domains.specs.declared.Told.{Told}
use Rattle.domains.specs.Told.{OfDomains, WalkRoom, shown_ports, DomainsTold, AllTold}
use Rattle.domains.specs.One.{OfOne, Puts, OneTold}

-- what is left of the domains ds: it fits where all fit, and written behind what was it is the whole
pub record Left (t : Setting) (ps : List Isolated) (ds rest : List Domainʳ) (g : Out) (glue : Bytes) (o : Out) (report : Bytes) (r : Told) : Type 0 where
  pub fits : all (domain_fits t) ds ≡ all (domain_fits t) rest
  pub glue_is : emit (glue ▸ r.glue) (each (domain_glue t ps) rest) ≡ emit g (each (domain_glue t ps) ds)
  pub report_is : emit (report ▸ r.report) (each (domain_line t) rest) ≡ emit o (each (domain_line t) ds)

module _ (t : Setting) (ps : List Isolated) (ds : List Domainʳ) (g : Out) (glue : Bytes) (o : Out) (report : Bytes) (r : Told) where
  left_next : (d : Domainʳ) (rest : List Domainʳ) (glue' report' : Bytes) (r' : Told) → Left t ps ds (d ∷ rest) g glue o report r → Puts (domain_fits t d) (domain_glue t ps d) (domain_line t d) (glue ▸ r.glue) glue' (report ▸ r.report) report' r' → Left t ps ds rest g glue' o report' r'
  unfolding all each
  left_next d rest glue' report' r' l x =
      record {
        fits = l.fits ∙ ap (λ (b : Bool). b && all (domain_fits t) rest) x.within;
        glue_is = ap (λ (w : Out). emit w (each (domain_glue t ps) rest)) x.glue_is ∙ sym (emit_append (glue ▸ r.glue) (domain_glue t ps d) (each (domain_glue t ps) rest)) ∙ l.glue_is;
        report_is = ap (λ (w : Out). emit w (each (domain_line t) rest)) x.report_is ∙ sym (emit_append (report ▸ r.report) (domain_line t d) (each (domain_line t) rest)) ∙ l.report_is;
      }

  left_over : (d : Domainʳ) (rest : List Domainʳ) → Left t ps ds (d ∷ rest) g glue o report r → domain_fits t d ≡ false → all (domain_fits t) ds ≡ false
  unfolding all
  left_over d rest l x = l.fits ∙ ap (λ (b : Bool). b && all (domain_fits t) rest) x

  left_done : Left t ps ds [] g glue o report r → Puts (all (domain_fits t) ds) (each (domain_glue t ps) ds) (each (domain_line t) ds) g glue o report r
  unfolding all each emit
  left_done l = record { within = l.fits; glue_is = l.glue_is; report_is = l.report_is }

-- ---- the domains of the records

domains_are : (mem : Bytes) (nums : List ℕ) (s : State) (log : Bytes) (t : Setting) → t.records ≡ model_of mem (store_of nums s) s log → t.records.domains ≡ map (domain_of mem) (take s.domains.n s.domains.all)
unfolding model_of
domains_are mem nums s log t e = rw e

told_all : (t : Setting) (ps : List Isolated) (ds : List Domainʳ) (g : Out) (glue : Bytes) (o : Out) (report : Bytes) (r : Told) → t.records.domains ≡ ds → Puts (all (domain_fits t) ds) (each (domain_glue t ps) ds) (each (domain_line t) ds) g glue o report r → DomainsTold t ps g glue o report (Ok r)
told_all t ps ds g glue o report r e x =
    record {
      fits = ap (all (domain_fits t)) e ∙ x.within;
      glue_is = x.glue_is ∙ ap (λ (l : List Domainʳ). emit g (each (domain_glue t ps) l)) (sym e);
      report_is = x.report_is ∙ ap (λ (l : List Domainʳ). emit o (each (domain_line t) l)) (sym e);
    }

-- ---- the loop, at domain i

pub record Telling (job : Bytes) (nums : List ℕ) (count k : ℕ) (files area path : Bytes) (from : ℕ) (top : Bytes) (s : State) (ports : List ℕ) (isolated : ℕ) (g : Out) (glue : Bytes) (o : Out) (report : Bytes) (r : Told) (i : ℕ) : Type 0 where
  pub left : (t : Setting) → Stands job nums count k files area path from top s t
      → Left t (shown_ports t job (files ++ area) s.isolations ports isolated) (map (domain_of (files ++ area)) (take s.domains.n s.domains.all)) (map (domain_of (files ++ area)) (drop i (take s.domains.n s.domains.all))) g glue o report r

pub telling_start : (job : Bytes) (nums : List ℕ) (count k : ℕ) (files area path : Bytes) (from : ℕ) (top : Bytes) (s : State) (ports : List ℕ) (isolated : ℕ) (glue report : Bytes) (r : Told) → Telling job nums count k files area path from top s ports isolated (glue ▸ r.glue) glue (report ▸ r.report) report r 0
telling_start job nums count k files area path from top s ports isolated glue report r = record { left = λ t st. record { fits = refl; glue_is = refl; report_is = refl } }

module _ (job : Bytes) (nums : List ℕ) (count k : ℕ) (table : List ℕ) (files area path : Bytes) (from prefix : ℕ) (s : State) (retained : List ℕ) (kept : ℕ) (ports : List ℕ) (isolated : ℕ) (h : OfDomains job nums count k table files area path from prefix s retained kept ports isolated) where
  abbrev of : Domain → ℕ
  of = of_domain (reach_of (length files))

  pub few_domains : s.domains.n ≤ 32
  few_domains = holds_few of (length (files ++ area)) s.domains.n s.domains.all (domains_hold files area nums s h.orders)

  pub domain_asked : (i : ℕ) (x : Domain) → i < s.domains.n → OfOne files area (get_or s.domains.all i x)
  domain_asked i x l =
      record {
        strings = holds_at of (length (files ++ area)) s.domains.n s.domains.all (domains_hold files area nums s h.orders) i x l;
        few = within_get (λ (y : Domain). length (domain_of (files ++ area) y).elements) s.domains.all s.domains.n i x (elements_few files area nums s h.orders) l (holds_long of (length (files ++ area)) s.domains.n s.domains.all (domains_hold files area nums s h.orders));
      }

  next_is : (i : ℕ) (x : Domain) → i < s.domains.n → map (domain_of (files ++ area)) (drop i (take s.domains.n s.domains.all)) ≡ domain_of (files ++ area) (get_or s.domains.all i x) ∷ map (domain_of (files ++ area)) (drop (i + 1) (take s.domains.n s.domains.all))
  next_is i x l = ap (map (domain_of (files ++ area))) (holds_next of (length (files ++ area)) s.domains.n s.domains.all (domains_hold files area nums s h.orders) i x l)

  end_is : (i : ℕ) → s.domains.n ≤ i → map (domain_of (files ++ area)) (drop i (take s.domains.n s.domains.all)) ≡ []
  end_is i l = ap (map (domain_of (files ++ area))) (holds_end of (length (files ++ area)) s.domains.n s.domains.all (domains_hold files area nums s h.orders) i l)

  left_as : (t : Setting) (ps : List Isolated) (ds rest rest' : List Domainʳ) (g : Out) (glue : Bytes) (o : Out) (report : Bytes) (r : Told) → rest ≡ rest' → Left t ps ds rest g glue o report r → Left t ps ds rest' g glue o report r
  left_as t ps ds rest rest' g glue o report r e l = rw e at l

  module _ (top : Bytes) (g : Out) (glue : Bytes) (o : Out) (report : Bytes) (r : Told) (i : ℕ) (inv : Telling job nums count k files area path from top s ports isolated g glue o report r i) where
    module _ (x : Domain) (glue' report' : Bytes) (l : i < s.domains.n) where
      abbrev One : Result Told TooMany → Type 0
      One = OneTold job nums count k files area path from top s ports isolated (get_or s.domains.all i x) (glue ▸ r.glue) glue' (report ▸ r.report) report'

      first : (t : Setting) → Stands job nums count k files area path from top s t → Left t (shown_ports t job (files ++ area) s.isolations ports isolated) (map (domain_of (files ++ area)) (take s.domains.n s.domains.all)) (domain_of (files ++ area) (get_or s.domains.all i x) ∷ map (domain_of (files ++ area)) (drop (i + 1) (take s.domains.n s.domains.all))) g glue o report r
      first t st = left_as t (shown_ports t job (files ++ area) s.isolations ports isolated) (map (domain_of (files ++ area)) (take s.domains.n s.domains.all)) (map (domain_of (files ++ area)) (drop i (take s.domains.n s.domains.all))) (domain_of (files ++ area) (get_or s.domains.all i x) ∷ map (domain_of (files ++ area)) (drop (i + 1) (take s.domains.n s.domains.all))) g glue o report r (next_is i x l) (inv.left t st)

      pub telling_next : (r' : Told) → One (Ok r') → Telling job nums count k files area path from top s ports isolated g glue' o report' r' (i + 1)
      telling_next r' one =
          record {
            left = λ t st. left_next t (shown_ports t job (files ++ area) s.isolations ports isolated) (map (domain_of (files ++ area)) (take s.domains.n s.domains.all)) g glue o report r (domain_of (files ++ area) (get_or s.domains.all i x)) (map (domain_of (files ++ area)) (drop (i + 1) (take s.domains.n s.domains.all))) glue' report' r' (first t st) (one.told t st);
          }

      pub telling_over : (e : TooMany) → One (Err e) → (r' : Result Told TooMany) → IsErrAnd r' (λ y. y ≡ e) → AllTold job nums count k files area path from top s ports isolated g glue' o report' r'
      telling_over e one (Err _) q t st =
          ap (all (domain_fits t)) (domains_are (files ++ area) nums s t.records.log t st.records_are)
          ∙ left_over t (shown_ports t job (files ++ area) s.isolations ports isolated) (map (domain_of (files ++ area)) (take s.domains.n s.domains.all)) g glue o report r (domain_of (files ++ area) (get_or s.domains.all i x)) (map (domain_of (files ++ area)) (drop (i + 1) (take s.domains.n s.domains.all))) (first t st) (one.told t st)
      telling_over e one (Ok _) q t st = absurd q

    pub telling_end : s.domains.n ≤ i → AllTold job nums count k files area path from top s ports isolated g glue o report (Ok r)
    telling_end l t st =
        told_all t (shown_ports t job (files ++ area) s.isolations ports isolated) (map (domain_of (files ++ area)) (take s.domains.n s.domains.all)) g glue o report r (domains_are (files ++ area) nums s t.records.log t st.records_are)
        (left_done t (shown_ports t job (files ++ area) s.isolations ports isolated) (map (domain_of (files ++ area)) (take s.domains.n s.domains.all)) g glue o report r
        (left_as t (shown_ports t job (files ++ area) s.isolations ports isolated) (map (domain_of (files ++ area)) (take s.domains.n s.domains.all)) (map (domain_of (files ++ area)) (drop i (take s.domains.n s.domains.all))) [] g glue o report r (end_is i l) (inv.left t st)))

-- ---- the room, as the walk left it

pub room_kept : (tail tail' text text' : Bytes) (ends ends' : List ℕ) → WalkRoom tail text ends → length tail' ≡ length tail → length text' ≡ length text → length ends' ≡ length ends → WalkRoom tail' text' ends'
room_kept tail tail' text text' ends ends' w a b c = record { tail_long = omega (arith, w.tail_long); text_long = omega (arith, w.text_long); ends_long = omega (arith, w.ends_long) }
