-- What a whole text is after it was written from the start of a buffer: there, where it fits, and else the place is one past the end.
-- Assumes nothing.
use Rattle.std.specs.Prelude.{ℕ, ◌+◌, ◌<◌, ◌≤◌, ◌≡◌, refl, [], ◌∷◌, ◌++◌, length, set, drop, ltb, Bool, true, false}
use Rattle.std.proofs.Common.{add-zero, add-suc, suc-add, zero-add, add-one, arith, ap, ◌∙◌, length-set, lt-ltb, ltb-true}
use Rattle.text.specs.Ascii.{Bytes}
use Rattle.std.proofs.lemmas.List.Edits.{sets, sets-eq}
use Rattle.out.specs.Emit.{Out, ◌▸◌, emit1, emit}

-- what fits from a place on is stored there
pub emit_sets : (t buf : Bytes) (at : ℕ) → at + length t ≤ length buf → emit (buf ▸ at) t ≡ sets buf at t ▸ (at + length t)
unfolding emit emit1
emit_sets [] buf at h = rw add-zero
emit_sets (b ∷ t) buf at h =
    let l : at < length buf = omega arith in
    let h' : at + 1 + length t ≤ length (set buf at b) = simp length-set (omega arith) in
    simp (lt-ltb at (length buf) l) (emit_sets t (set buf at b) (at + 1) h' ∙ rw (add-one, add-suc, suc-add))

-- it fits: the text, and behind it the buffer as it was
pub emit_fits : (t buf : Bytes) → length t ≤ length buf → emit (buf ▸ 0) t ≡ (t ++ drop (length t) buf) ▸ length t
emit_fits t buf h =
    let k : 0 + length t ≤ length buf = omega arith in
    emit_sets t buf 0 k ∙ rw (sets-eq t buf 0 k, zero-add)

-- it does not
over : (t buf : Bytes) (at : ℕ) → at ≤ length buf + 1 → length buf < at + length t → (emit (buf ▸ at) t).at ≡ length buf + 1
unfolding emit emit1
over [] buf at h k = omega arith
over (b ∷ t) buf at h k = go (λ buf at. over t buf at) (ltb at (length buf)) refl
  where
    go : ((buf : Bytes) (at : ℕ) → at ≤ length buf + 1 → length buf < at + length t → (emit (buf ▸ at) t).at ≡ length buf + 1)
        → (z : Bool) → ltb at (length buf) ≡ z → (emit (emit1 (buf ▸ at) b) t).at ≡ length buf + 1
    go ih true e =
        let l : at < length buf = ltb-true _ _ e in
        simp e (rw length-set at (ih (set buf at b) (at + 1) (simp length-set (omega arith)) (simp length-set (omega arith))))
    go ih false e = simp e (ih buf (length buf + 1) (omega arith) (omega arith))

pub emit_over : (t buf : Bytes) → length buf < length t → (emit (buf ▸ 0) t).at ≡ length buf + 1
emit_over t buf h = over t buf 0 (omega arith) (omega arith)

-- what a caller that wrote the text t from the start of buf has: n is the place that the last write answered
pub record Whole (buf t buf' : Bytes) (n : ℕ) : Type 0 where
  pub fits : length t ≤ length buf → (n ≡ length t) × (buf' ≡ t ++ drop (length t) buf)
  pub over : length buf < length t → n ≡ length buf + 1

pub whole : (buf t buf' : Bytes) (n : ℕ) → buf' ▸ n ≡ emit (buf ▸ 0) t → Whole buf t buf' n
whole buf t buf' n e = record {
  fits = λ h. (ap (λ (o : Out). o.at) (e ∙ emit_fits t buf h), ap (λ (o : Out). o.bytes) (e ∙ emit_fits t buf h));
  over = λ h. ap (λ (o : Out). o.at) e ∙ emit_over t buf h;
}
