-- How the code's answer stands for the definition's: number and place, and each text at the front of its buffer. Assumes nothing.
use Rattle.std.specs.Prelude.{ℕ, ◌+◌, ◌-◌, ◌≡◌, refl, Bool, true, false, cond, ◌&&◌, [], ◌++◌, leb, length, take, drop}
use Rattle.std.proofs.Common.{arith, sym, ap, ◌∙◌, length-drop, take-append-drop, take_at, ne_eqb, le-leb, leb-true, leb-false}
use Rattle.std.proofs.lemmas.Bool.{lt-leb}
use Rattle.text.specs.Ascii.{Bytes}
use Rattle.out.specs.Emit.{◌▸◌, emit}
use Rattle.out.specs.Fits.{whole}
use Rattle.out.specs.Clear.{cleared_from}
use Rattle.out.proofs.Cleared.{cleared_text}
use Rattle.texts.specs.Setting.{Setting}
use Rattle.texts.specs.Texts.{glue_of, package_of, report_of}
use Rattle.answers.specs.Answer.{Lent, Answer, texts, refused, fitted, number, place, glue_text_lem, package_text, report_text, log_text, held}
use Rattle.answers.specs.Answers.{refused_by, fitted_by}
use Rattle.answers.specs.Stage.{Stage, set, stop, Written, Staged}
use Rattle.answers.specs.declared.Answer.{Answer as Code}
use Rattle.answers.specs.declared.Texts.{Texts}
use Rattle.answers.specs.declared.Rooms.{Rooms}

-- a text stands at the front of a buffer, and has n bytes
pub record Fronts (t buf : Bytes) (n : ℕ) : Type 0 where
  pub long : n ≡ length t
  pub front : take n buf ≡ t

pub record Told (a : Answer) (glue pkg report log : Bytes) (r : Code) : Type 0 where
  pub number_is : r.number ≡ number a
  pub place_is_lem : r.place ≡ place a
  pub glue_is : Fronts (glue_text_lem a) glue r.glue
  pub pkg_is : Fronts (package_text a) pkg r.pkg
  pub report_is : Fronts (report_text a) report r.report
  pub log_is : Fronts (log_text a) log r.log

-- ---- a refusal has no texts
pub refused_told : (x k : ℕ) (glue pkg report log : Bytes) (r : Code) → r ≡ refused_by x k → Told (refused x k) glue pkg report log r
refused_told x k glue pkg report log r e =
    let none : (buf : Bytes) → Fronts [] buf 0 = λ buf. record { long = refl; front = refl } in
    rw e record { number_is = refl; place_is_lem = refl; glue_is = none glue; pkg_is = none pkg; report_is = none report; log_is = none log }

-- ---- "Does each text fit its lent buffer? No: 14."
abbrev pub roomed : Lent → Stage → Bytes → Answer
roomed l (set t) log = fitted l (glue_of t) (package_of t) (report_of t) log
roomed l (stop n) log = refused n 0

-- a text that was written from the start of a buffer fits it exactly where the place is within it
module _ (buf t buf' : Bytes) (n : ℕ) (w : buf' ▸ n ≡ emit (buf ▸ 0) t) where
  room_is : leb n (length buf) ≡ leb (length t) (length buf)
  room_is = go (leb (length t) (length buf)) refl
    where
      go : (b : Bool) → leb (length t) (length buf) ≡ b → leb n (length buf) ≡ b
      go true e = let h = (whole buf t buf' n w).fits (leb-true (length t) (length buf) e) in le-leb n (length buf) (omega (arith, h.0, leb-true (length t) (length buf) e))
      go false e = let h = (whole buf t buf' n w).over (leb-false (length t) (length buf) e) in lt-leb n (length buf) (omega (arith, h))

  fits_fronts : leb (length t) (length buf) ≡ true → Fronts t buf' n
  fits_fronts e =
      let h = (whole buf t buf' n w).fits (leb-true (length t) (length buf) e) in
      record { long = h.0; front = rw h.1 (take_at t (drop (length t) buf) n (sym h.0)) }

-- the answer
module _ (l : Lent) (glue₀ glue pkg₀ pkg report₀ report log₀ log text : Bytes) (end : ℕ) (w : log ▸ end ≡ emit (log₀ ▸ 0) text) (rooms : Rooms) (r : Code) where
  module _ (eg : rooms.glue ≡ length glue₀) (ep : rooms.pkg ≡ length pkg₀) (er : rooms.report ≡ length report₀) (el : rooms.log ≡ length log₀) (lg : l.glue_room ≡ length glue₀) (lp : l.package_room ≡ length pkg₀) (lr : l.report_room ≡ length report₀) (ll : l.log_room ≡ length log₀) (t : Texts) (e : r ≡ fitted_by t end rooms) where
    set_told : (x : Setting) → Written glue₀ glue pkg₀ pkg report₀ report t x → Told (fitted l (glue_of x) (package_of x) (report_of x) text) glue pkg report log r
    set_told x v = go (leb (length (glue_of x)) (length glue₀)) (leb (length (package_of x)) (length pkg₀)) (leb (length (report_of x)) (length report₀)) (leb (length text) (length log₀)) refl refl refl refl
      where
        no_room : {b : Bool} → leb (length (glue_of x)) (length glue₀) && (leb (length (package_of x)) (length pkg₀) && (leb (length (report_of x)) (length report₀) && leb (length text) (length log₀))) ≡ b → (r ≡ cond b (record { number = 0; place = 0; glue = t.glue; pkg = t.pkg; report = t.report; log = end }) (refused_by 14 0)) × (fitted l (glue_of x) (package_of x) (report_of x) text ≡ cond b (texts (glue_of x) (package_of x) (report_of x) text) (refused 14 0))
        no_room {b} q = (
          e ∙ rw (v.number_is, eg, ep, er, el, room_is glue₀ (glue_of x) glue t.glue v.glue_is, room_is pkg₀ (package_of x) pkg t.pkg v.pkg_is, room_is report₀ (report_of x) report t.report v.report_is, room_is log₀ text log end w, q),
          rw (lg, lp, lr, ll, q),
        )

        lost : leb (length (glue_of x)) (length glue₀) && (leb (length (package_of x)) (length pkg₀) && (leb (length (report_of x)) (length report₀) && leb (length text) (length log₀))) ≡ false → Told (fitted l (glue_of x) (package_of x) (report_of x) text) glue pkg report log r
        lost q = let n = no_room q in rw n.1 (refused_told 14 0 glue pkg report log r n.0)

        go : (a b c d : Bool) → leb (length (glue_of x)) (length glue₀) ≡ a → leb (length (package_of x)) (length pkg₀) ≡ b → leb (length (report_of x)) (length report₀) ≡ c → leb (length text) (length log₀) ≡ d → Told (fitted l (glue_of x) (package_of x) (report_of x) text) glue pkg report log r
        go false b c d qa qb qc qd = lost (rw (qa))
        go true false c d qa qb qc qd = lost (rw (qa, qb))
        go true true false d qa qb qc qd = lost (rw (qa, qb, qc))
        go true true true false qa qb qc qd = lost (rw (qa, qb, qc, qd))
        go true true true true qa qb qc qd =
            let n = no_room {b = true} (rw (qa, qb, qc, qd)) in
            rw (n.1, n.0) record {
              number_is = refl;
              place_is_lem = refl;
              glue_is = fits_fronts glue₀ (glue_of x) glue t.glue v.glue_is qa;
              pkg_is = fits_fronts pkg₀ (package_of x) pkg t.pkg v.pkg_is qb;
              report_is = fits_fronts report₀ (report_of x) report t.report v.report_is qc;
              log_is = fits_fronts log₀ text log end w qd;
            }

    pub stage_told : (st : Stage) → Staged glue₀ glue pkg₀ pkg report₀ report t st → Told (roomed l st text) glue pkg report log r
    stage_told (set x) v = set_told x v
    stage_told (stop n) v = refused_told n 0 glue pkg report log r (e ∙ rw (v.0, ne_eqb n 0 v.1))

-- ---- cleared behind the text
pub cleared_held : (t buf : Bytes) (n : ℕ) → Fronts t buf n → cleared_from n buf ≡ held (length buf) t
cleared_held t buf n f =
    let k : buf ≡ t ++ drop n buf = sym (take-append-drop n buf) ∙ ap (λ (p : Bytes). p ++ drop n buf) f.front in
    let z : length buf - length t ≡ length (drop n buf) = omega (arith, length-drop n buf, f.long) in
    rw (z, f.long) (ap (cleared_from (length t)) (rw f.long at k) ∙ cleared_text t (drop (length t) buf))
