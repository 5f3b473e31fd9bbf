-- A text is the text of its parts; with a slash, it is what stands before its last slash, the slash, and the last part. Assumes nothing.
use Rattle.std.specs.Prelude.{ℕ, suc, ◌+◌, ◌-◌, ◌<◌, ◌≡◌, refl, Bool, true, false, cond, ◌||◌, List, [], ◌∷◌, ◌++◌, eqb}
use Rattle.std.proofs.Common.{arith, ◌∙◌, append_assoc, length-append, eqb-true}
use Rattle.std.proofs.Math.Path.{sym, ap}
use Rattle.std.proofs.Math.ListN.{length, take}
use Rattle.std.proofs.Math.Seq.{take_at}
use Rattle.text.specs.Ascii.{Bytes, ascii, byte}
use Rattle.text.specs.Scan.{any, is, onto, split_at}
use Rattle.text.specs.Sames.{no_true}
use Rattle.names.specs.Parts.{parts, first_part, others, parts_some}
use Rattle.model.specs.Scope.{up_length, up}
use Rattle.texts.specs.Isolation.{last_part}

-- the text of its parts
abbrev pub textual : List Bytes → Bytes
textual [] = []
textual (p ∷ []) = p
textual (p ∷ q ∷ ps) = p ++ byte "/" ∷ textual (q ∷ ps)

textual_onto : (x : ℕ) (p : Bytes) (ps : List Bytes) → textual (onto x (p ∷ ps)) ≡ x ∷ textual (p ∷ ps)
textual_onto x p [] = refl
textual_onto x p (q ∷ ps) = refl

pub textual_is : (t : Bytes) → textual (parts t) ≡ t
unfolding split_at
textual_is [] = refl
textual_is (x ∷ t) = go (eqb x (byte "/")) refl (parts_some (byte "/") t) (textual_is t)
  where
    go : (b : Bool) → eqb x (byte "/") ≡ b → parts t ≡ first_part (parts t) ∷ others (parts t) → textual (parts t) ≡ t → textual (cond b ([] ∷ parts t) (onto x (parts t))) ≡ x ∷ t
    go true c p e =
        let y : x ≡ byte "/" = eqb-true x (byte "/") c in
        let a : textual ([] ∷ parts t) ≡ byte "/" ∷ textual (parts t) = rw p in
        a ∙ rw (e, y)
    go false c p e =
        let a : textual (onto x (parts t)) ≡ x ∷ textual (parts t) = rw p (textual_onto x (first_part (parts t)) (others (parts t))) in
        a ∙ rw e

-- ---- what stands before the last of two parts or more

abbrev fronted : Bytes → Bytes → List Bytes → Bytes
fronted p q [] = p
fronted p q (r ∷ ps) = p ++ byte "/" ∷ fronted q r ps

fronted_long : (p q : Bytes) (ps : List Bytes) → length (fronted p q ps) ≡ up_length (p ∷ q ∷ ps)
fronted_long p q [] = refl
fronted_long p q (r ∷ ps) = length-append p (byte "/" ∷ fronted q r ps) ∙ rw (fronted_long q r ps) (omega arith)

fronted_is : (p q : Bytes) (ps : List Bytes) → textual (p ∷ q ∷ ps) ≡ fronted p q ps ++ (ascii "/" ++ last_part (p ∷ q ∷ ps))
fronted_is p q [] = refl
fronted_is p q (r ∷ ps) = ap (λ (l : Bytes). p ++ byte "/" ∷ l) (fronted_is q r ps) ∙ sym (append_assoc p (byte "/" ∷ fronted q r ps) (ascii "/" ++ last_part (q ∷ r ∷ ps)))

-- two parts or more, where there is a slash
two_parts : (t : Bytes) → any (is (byte "/")) t ≡ true → (q : Bytes) × ((qs : List Bytes) × (parts t ≡ first_part (parts t) ∷ q ∷ qs))
unfolding any split_at
two_parts [] h = absurd (no_true h)
two_parts (x ∷ t) h = go (eqb x (byte "/")) (parts_some (byte "/") t) h (λ k. two_parts t k)
  where
    go : (b : Bool) → parts t ≡ first_part (parts t) ∷ others (parts t) → b || any (is (byte "/")) t ≡ true → (any (is (byte "/")) t ≡ true → (q : Bytes) × ((qs : List Bytes) × (parts t ≡ first_part (parts t) ∷ q ∷ qs)))
        → (q : Bytes) × ((qs : List Bytes) × (cond b ([] ∷ parts t) (onto x (parts t)) ≡ first_part (cond b ([] ∷ parts t) (onto x (parts t))) ∷ q ∷ qs))
    go true p k r = (first_part (parts t), (others (parts t), ap (λ (l : List Bytes). [] ∷ l) p))
    go false p k r =
        let m = r k in
        let e : onto x (parts t) ≡ (x ∷ first_part (parts t)) ∷ m.0 ∷ m.1.0 = ap (onto x) m.1.1 in
        (m.0, (m.1.0, e ∙ ap (λ (w : Bytes). w ∷ m.0 ∷ m.1.0) (sym (ap first_part e))))

-- a text with a slash
module _ (t : Bytes) (h : any (is (byte "/")) t ≡ true) where
  split_up : (p q : Bytes) (qs : List Bytes) → parts t ≡ p ∷ q ∷ qs → (t ≡ up t ++ (ascii "/" ++ last_part (parts t))) × (length (up t) ≡ up_length (parts t))
  unfolding up
  split_up p q qs e =
      let a : t ≡ fronted p q qs ++ (ascii "/" ++ last_part (p ∷ q ∷ qs)) = sym (textual_is t) ∙ ap textual e ∙ fronted_is p q qs in
      let l : length (fronted p q qs) ≡ up_length (parts t) = fronted_long p q qs ∙ ap up_length (sym e) in
      let u : take (up_length (parts t)) t ≡ fronted p q qs = ap (take (up_length (parts t))) a ∙ take_at (fronted p q qs) (ascii "/" ++ last_part (p ∷ q ∷ qs)) (up_length (parts t)) l in
      (a ∙ rw (u, e), ap length u ∙ l)

  both_up : (t ≡ up t ++ (ascii "/" ++ last_part (parts t))) × (length (up t) ≡ up_length (parts t))
  both_up = let m = two_parts t h in split_up (first_part (parts t)) m.0 m.1.0 m.1.1

  pub up_is : up t ++ (ascii "/" ++ last_part (parts t)) ≡ t
  up_is = sym both_up.0

  -- by how long it is without its last part
  pub up_front : (n : ℕ) (rest : Bytes) → n + length rest ≡ length t → rest ≡ last_part (parts t) → (take (n - 1) t ≡ up t) × (0 < n)
  up_front n rest s e =
      let l : length t ≡ length (up t) + suc (length (last_part (parts t))) = ap length both_up.0 ∙ length-append (up t) (ascii "/" ++ last_part (parts t)) in
      let m : length rest ≡ length (last_part (parts t)) = ap length e in
      let k : length (up t) ≡ n - 1 = omega (arith, l, m, s) in
      (ap (take (n - 1)) both_up.0 ∙ take_at (up t) (ascii "/" ++ last_part (parts t)) (n - 1) k, omega (arith, l, m, s))
