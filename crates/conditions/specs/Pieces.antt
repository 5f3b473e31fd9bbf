-- Laws: a condition piece by piece, for all who read it so. Assumes nothing.
use Rattle.std.specs.Prelude.{ℕ, zero, suc, ◌+◌, ◌≤◌, ◌<◌, ◌≡◌, Bool, true, false, cond, List, [], ◌∷◌, ◌++◌, length, take, drop, Option, None, Some}
use Rattle.std.proofs.Common.{arith, ◌∙◌, length-drop, length-append}
use Rattle.std.proofs.Math.Path.{refl}
use Rattle.text.specs.Ascii.{Bytes}
use Rattle.text.specs.Classes.{is_digit, is_variable}
use Rattle.text.specs.Scan.{all, before}
use Rattle.out.specs.Fill.{format1}
use Rattle.tcl.specs.Rewrite.{rewrite}
use Rattle.tcl.specs.Substitution.{no_variable}
use Rattle.model.specs.Records.{Control}
use Rattle.texts.specs.Setting.{Setting}
use Rattle.texts.specs.Switches.{signal_of, word_more, word_at, word_text, piece_text, condition, unless_known, unknowns}

rewrite_skip : (more : Bytes → ℕ) (f : Bytes → Bytes) (k : ℕ) (t : Bytes) → rewrite more f k t ≡ rewrite more f 0 (drop k t)
unfolding rewrite
rewrite_skip more f zero t = refl
rewrite_skip more f (suc k) [] = refl
rewrite_skip more f (suc k) (x ∷ t) = rewrite_skip more f k t

unknowns_skip : (s : Setting) (cs : List Control) (k : ℕ) (t : Bytes) → unknowns s cs k t ≡ unknowns s cs 0 (drop k t)
unfolding unknowns
unknowns_skip s cs zero t = refl
unknowns_skip s cs (suc k) [] = refl
unknowns_skip s cs (suc k) (x ∷ t) = unknowns_skip s cs k t

-- the size of a word at the head
word_is : (b : ℕ) (t : Bytes) → is_variable b ≡ true → before no_variable (b ∷ t) ≡ suc (before no_variable t)
unfolding before
word_is b t v = rw v

more_is : (b : ℕ) (t : Bytes) → is_variable b ≡ true → word_more (b ∷ t) ≡ before no_variable t
unfolding word_more
more_is b t v = rw v

at_is : (b : ℕ) (t : Bytes) → is_variable b ≡ true → word_at (b ∷ t) ≡ take (suc (before no_variable t)) (b ∷ t)
at_is b t v = let e : 1 + before no_variable t ≡ suc (before no_variable t) = omega arith in rw (more_is b t v, e)

module _ (s : Setting) (cs : List Control) (b : ℕ) (t : Bytes) where
  pub condition_none : condition s cs [] ≡ []
  unfolding rewrite
  condition_none = refl

  pub unknowns_none : unknowns s cs 0 [] ≡ []
  unfolding unknowns
  unknowns_none = refl

  module _ (v : is_variable b ≡ false) where
    no_more : word_more (b ∷ t) ≡ 0
    unfolding word_more
    no_more = rw v

    pub condition_byte : condition s cs (b ∷ t) ≡ b ∷ condition s cs t
    unfolding rewrite piece_text
    condition_byte = rw (no_more, v)

    pub unknowns_byte : unknowns s cs 0 (b ∷ t) ≡ unknowns s cs 0 t
    unfolding unknowns
    unknowns_byte = rw (no_more, v)

  -- n bytes are a word
  module _ (v : is_variable b ≡ true) (n : ℕ) (e : n ≡ before no_variable (b ∷ t)) where
    n_is : n ≡ suc (before no_variable t)
    n_is = e ∙ word_is b t v

    pub condition_word : condition s cs (b ∷ t) ≡ word_text (signal_of s cs (take n (b ∷ t)) None) (take n (b ∷ t)) ++ condition s cs (drop n (b ∷ t))
    unfolding rewrite piece_text
    condition_word = rw (v, at_is b t v, more_is b t v, rewrite_skip word_more (piece_text s cs) (before no_variable t) t, n_is)

    pub unknowns_word : unknowns s cs 0 (b ∷ t) ≡ unless_known (signal_of s cs (take n (b ∷ t)) None) (take n (b ∷ t)) ++ unknowns s cs 0 (drop n (b ∷ t))
    unfolding unknowns
    unknowns_word = rw (v, at_is b t v, more_is b t v, unknowns_skip s cs (before no_variable t) t, n_is)

    pub word_shorter : length (drop n (b ∷ t)) < length (b ∷ t)
    word_shorter = rw n_is (omega (arith, length-drop (before no_variable t) t))

-- no more of them than there are bytes
unless_few : (o : Option Bytes) (w : Bytes) → length (unless_known o w) ≤ 1
unless_few (Some sig) w = omega arith
unless_few None w = go (all is_digit w) (format1 "power switch state uses unknown control port '{0}'" w)
  where
    go : (b : Bool) (t : Bytes) → length (cond b [] (t ∷ [])) ≤ 1
    go true t = omega arith
    go false t = omega arith

pub unknowns_few : (s : Setting) (cs : List Control) (k : ℕ) (t : Bytes) → length (unknowns s cs k t) ≤ length t
unfolding unknowns
unknowns_few s cs k [] = omega arith
unknowns_few s cs zero (b ∷ t) = go (is_variable b) (unknowns_few s cs (word_more (b ∷ t)) t)
  where
    go : (v : Bool) → length (unknowns s cs (word_more (b ∷ t)) t) ≤ length t → length (cond v (unless_known (signal_of s cs (word_at (b ∷ t)) None) (word_at (b ∷ t))) [] ++ unknowns s cs (word_more (b ∷ t)) t) ≤ suc (length t)
    go true h = omega (arith, length-append (unless_known (signal_of s cs (word_at (b ∷ t)) None) (word_at (b ∷ t))) (unknowns s cs (word_more (b ∷ t)) t), unless_few (signal_of s cs (word_at (b ∷ t)) None) (word_at (b ∷ t)))
    go false h = omega arith
unknowns_few s cs (suc k) (b ∷ t) = let h : length (unknowns s cs k t) ≤ length t = unknowns_few s cs k t in omega arith
