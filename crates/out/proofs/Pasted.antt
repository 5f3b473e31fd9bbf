-- What is copied into a buffer whole, where it fits, is what writing it byte by byte gives. Assumes nothing.
use Rattle.std.specs.Prelude.{ℕ, ◌+◌, ◌-◌, ◌≤◌, ◌≡◌, ◌++◌, length, take, drop}
use Rattle.std.proofs.Common.{arith, append_assoc, ap, sym, ◌∙◌}
use Rattle.std.proofs.lemmas.List.Edits.{sets, sets-eq}
use borrow.Rule.Slice.PartMut.{put_mid, Post-is}
use Rattle.text.specs.Ascii.{Bytes}
use Rattle.out.specs.Emit.{◌▸◌, emit}
use Rattle.out.specs.Fits.{emit_sets}

pub emit_pasted : (p buf ys : Bytes) (at e : ℕ) → e ≡ at + length p → e ≤ length buf → ys ≡ p → put_mid at (e - at) buf ys ▸ e ≡ emit (buf ▸ at) p
emit_pasted p buf ys at e h g k =
    let h' : at + length p ≤ length buf = omega (arith, h, g) in
    let l : at ≤ e = omega (arith, h) in
    let q : take at buf ++ (ys ++ drop e buf) ≡ sets buf at p = rw (k, h) (sym (append_assoc (take at buf) p (drop (at + length p) buf)) ∙ sym (sets-eq p buf at h')) in
    ap (λ (z : Bytes). (take at buf ++ (ys ++ z)) ▸ e) (Post-is at e buf l)
    ∙ ap (λ (z : Bytes). z ▸ e) q
    ∙ ap (λ (n : ℕ). sets buf at p ▸ n) h
    ∙ sym (emit_sets p buf at h')
