-- Laws: what a command does, from what it leaves. Assumes nothing.
use Rattle.std.specs.Prelude.{ℕ, ◌+◌, ◌≤◌, ◌<◌, ◌≡◌, refl, Bool, true, false, List, [], ◌∷◌, ◌++◌, leb, length}
use Rattle.std.proofs.Common.{arith, ◌∙◌, length-append, le-leb, ne_eqb, leb-true, leb-false}
use Rattle.std.proofs.Math.Path.{sym}
use Rattle.std.proofs.Math.ListN.{length-map}
use Rattle.std.proofs.lemmas.Bool.{lt-leb}
use Rattle.text.specs.Ascii.{Bytes}
use Rattle.model.specs.Records.{Model}
use Rattle.model.specs.Within.{records_fit}
use Rattle.model.specs.Commands.{warned as warnedʳ}
use Rattle.spans.specs.Span.{◌⋯◌}
use Rattle.spans.specs.Reach.{filed, reach_held}
use Rattle.store.specs.Strings.{string, no_string}
use Rattle.store.specs.View.{Store, model_of, text_of, warning_text, warnings_in}
use Rattle.store.specs.Order.{of_row, Shaped, Bounded}
use Rattle.store.specs.Rows.{Packs}
use Rattle.store.specs.Added.{warning_counted}
use Rattle.store.specs.Rowed.{rowed, with_row, warning_view, warning_shaped, warning_bounded}
use Rattle.store.specs.Fits.{fits_all, fit_warnings}
use Rattle.store.specs.Variables.{now_fits}
use Rattle.store.specs.declared.stored.Stored.{Stored}
use Rattle.store.specs.declared.state.State.{State}
use Rattle.made.specs.Made.{no_row, fine_made, full_made, warning_row, warned_made, reach_of, Kept, Did}

pub reach_none : (long : ℕ) → reach_of long no_string ≡ 0
reach_none long = reach_held long (0 ⋯ 0) (filed (omega arith))

pub kept_all : (s : State) → Kept s s
kept_all s = record { count = refl; scope = refl; end = refl; log = refl; words = refl }

pub packs_none : Packs no_row
packs_none = record { kind = omega arith; at = omega arith; len = omega arith }

-- one more of n is within the limit c, or is not
module _ {A : Type 0} (xs : List A) (x : A) (n c : ℕ) (e : length xs ≡ n) where
  one_longer : length (xs ++ (x ∷ [])) ≡ n + 1
  one_longer = length-append xs (x ∷ []) ∙ rw e

  pub one_fits : n < c → leb (length (xs ++ (x ∷ []))) c ≡ true
  one_fits h = rw one_longer (le-leb (n + 1) c (omega arith))

  pub one_over : c ≤ n → leb (length (xs ++ (x ∷ []))) c ≡ false
  one_over h = rw one_longer (lt-leb (n + 1) c (omega arith))

module _ (long : ℕ) (mem : Bytes) (st : Store) (log : Bytes) (s : State) (v : Shaped st s) (b : Bounded (reach_of long) (length mem) st s) where
  -- it is carried out, with no row
  pub did_fine : (u : State) (t : Model) → model_of mem st u log ≡ t → records_fit t ≡ true → Shaped st u → Bounded (reach_of long) (length mem) st u → Kept s u → Did long mem st log s (fine_made u) t
  did_fine u t e f w c k = record { result = rw (e, f); shaped = w; bounded = c; packs = packs_none; kept = k }

  -- the records are left as they are
  pub did_nothing : Did long mem st log s (fine_made s) (model_of mem st s log)
  did_nothing = did_fine s (model_of mem st s log) refl (fits_all (model_of mem st s log) (now_fits mem st s log v)) v b (kept_all s)

  -- a limit is passed
  pub did_full : (t : Model) → records_fit t ≡ false → Did long mem st log s (full_made s) t
  did_full t f = record { result = rw f; shaped = v; bounded = b; packs = packs_none; kept = kept_all s }

  -- a warning more
  warn_length : length (model_of mem st s log).warnings ≡ s.fill.warnings
  unfolding model_of
  warn_length = length-map (warnings_in st.rows) (warning_text mem) ∙ sym v.warnings

  warn_fits : (t : Bytes) → records_fit (warnedʳ (model_of mem st s log) t) ≡ leb (length ((model_of mem st s log).warnings ++ (t ∷ []))) 256
  warn_fits t = fit_warnings (model_of mem st s log) (now_fits mem st s log v) ((model_of mem st s log).warnings ++ (t ∷ []))

  module _ (kind : ℕ) (name : Stored) (low : 3 ≤ kind) (high : kind < 16) (ends : reach_of long name ≤ length mem) where
    warn_view : model_of mem (rowed st (warning_row kind name)) (warning_counted s) log ≡ warnedʳ (model_of mem st s log) (text_of kind (string mem name))
    unfolding model_of warning_text
    warn_view = warning_view mem st s log (warning_row kind name) low

    warn_ends : of_row (reach_of long) (warning_row kind name) ≤ length mem
    warn_ends = rw (ne_eqb kind 2 (λ e. absurd (omega arith))) (omega (arith, reach_none long, ends))

    is_row : with_row st (warning_row kind name) ≡ rowed st (warning_row kind name)
    is_row = rw (ne_eqb kind 0 (λ e. absurd (omega arith)))

    warn_by : (b : Bool) → leb 256 s.fill.warnings ≡ b → Did long mem st log s (warned_made s kind name) (warnedʳ (model_of mem st s log) (text_of kind (string mem name)))
    warn_by true e =
        let h : 256 ≤ s.fill.warnings = leb-true 256 s.fill.warnings e in
        rw e (did_full (warnedʳ (model_of mem st s log) (text_of kind (string mem name))) (warn_fits (text_of kind (string mem name)) ∙ one_over (model_of mem st s log).warnings (text_of kind (string mem name)) s.fill.warnings 256 warn_length h))
    warn_by false e =
        let h : s.fill.warnings < 256 = leb-false 256 s.fill.warnings e in
        let f : records_fit (warnedʳ (model_of mem st s log) (text_of kind (string mem name))) ≡ true = warn_fits (text_of kind (string mem name)) ∙ one_fits (model_of mem st s log).warnings (text_of kind (string mem name)) s.fill.warnings 256 warn_length h in
        rw e
        (record {
          result = rw (ne_eqb kind 0 (λ z. absurd (omega arith)), warn_view, f);
          shaped = rw (ne_eqb kind 0 (λ z. absurd (omega arith))) (warning_shaped st s (warning_row kind name) v low h);
          bounded = rw (ne_eqb kind 0 (λ z. absurd (omega arith))) (warning_bounded (reach_of long) (length mem) st s (warning_row kind name) b (warn_ends));
          packs = record { kind = high; at = omega arith; len = omega arith };
          kept = record { count = refl; scope = refl; end = refl; log = refl; words = refl };
        })

    pub did_warn : Did long mem st log s (warned_made s kind name) (warnedʳ (model_of mem st s log) (text_of kind (string mem name)))
    did_warn = warn_by (leb 256 s.fill.warnings) refl
