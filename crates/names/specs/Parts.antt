-- The parts of a name between its slashes, one after the other: `split_at (byte "/")` of its bytes. Assumes nothing.
use Rattle.std.specs.Prelude.{ℕ, suc, ◌≡◌, refl, Bool, true, false, cond, List, [], ◌∷◌, eqb, length, get_or, Option, None, Some}
use Rattle.std.proofs.Common.{sym, ap, ◌∙◌, arith, eq-eqb, ne_eqb}
use Rattle.text.specs.Ascii.{Bytes, byte}
use Rattle.text.specs.Compare.{same}
use Rattle.text.specs.Sames.{no_true, same_eq}
use Rattle.text.specs.Scan.{onto, split_at}
use Rattle.names.specs.Name.{name_of}
use Rattle.names.specs.declared.name.Name.{Name}
use Rattle.names.specs.declared.part.Part.{Part}
use Rattle.names.specs.declared.part.Part.TheVariants.{Same, Last, Other}

-- the parts between the slashes, the empty ones too
abbrev pub parts : Bytes → List Bytes
parts s = split_at (byte "/") s

-- the first part, and the others
abbrev pub first_part : List Bytes → Bytes
first_part [] = []
first_part (p ∷ ps) = p

abbrev pub others : List Bytes → List Bytes
others [] = []
others (p ∷ ps) = ps

-- the others, where the first is w
abbrev pub behind : Bytes → List Bytes → Option (List Bytes)
behind w ps = cond (same (first_part ps) w) (Some (others ps)) None

-- without the slashes at its start
unfoldable pub unslashed : Bytes → Bytes
unslashed [] = []
unslashed (x ∷ xs) = cond (eqb x (byte "/")) (unslashed xs) (x ∷ xs)

-- ---- what the answers tell

-- the parts that are left behind the first
abbrev pub rest_of : Bytes → Option Name → List Bytes
rest_of mem (Some n) = parts (name_of mem n)
rest_of mem None = []

-- the same where the first part was the one looked for
abbrev pub part_of : Bytes → Part → Option (List Bytes)
part_of mem (Same n) = Some (parts (name_of mem n))
part_of mem Last = Some []
part_of mem Other = None

-- ---- laws for clients

-- there is a first part
pub parts_some : (b : ℕ) (s : Bytes) → split_at b s ≡ first_part (split_at b s) ∷ others (split_at b s)
unfolding split_at
parts_some b [] = refl
parts_some b (x ∷ xs) = go (eqb x b) (split_at b xs)
  where
    go : (t : Bool) (ps : List Bytes) → cond t ([] ∷ ps) (onto x ps) ≡ first_part (cond t ([] ∷ ps) (onto x ps)) ∷ others (cond t ([] ∷ ps) (onto x ps))
    go true ps = refl
    go false [] = refl
    go false (p ∷ ps) = refl

-- a byte that belongs to the first part
pub onto_first_lem : (x : ℕ) (ps : List Bytes) → first_part (onto x ps) ≡ x ∷ first_part ps
onto_first_lem x [] = refl
onto_first_lem x (p ∷ ps) = refl

pub onto_others : (x : ℕ) (ps : List Bytes) → others (onto x ps) ≡ others ps
onto_others x [] = refl
onto_others x (p ∷ ps) = refl

pub parts_at : (x : ℕ) (s : Bytes) → x ≡ byte "/" → parts (x ∷ s) ≡ [] ∷ parts s
unfolding split_at
parts_at x s h = rw (eq-eqb x (byte "/") h)

pub parts_on : (x : ℕ) (s : Bytes) → (x ≡ byte "/" → ⊥) → parts (x ∷ s) ≡ onto x (parts s)
unfolding split_at
parts_on x s h = rw (ne_eqb x (byte "/") h)

pub parts_none : parts [] ≡ [] ∷ []
unfolding split_at
parts_none = refl

-- behind a slash
pub parts_slash : (s : Bytes) → parts (byte "/" ∷ s) ≡ [] ∷ parts s
unfolding split_at
parts_slash s = refl

-- what ignores empty parts does not see the slashes at the start
pub unslashed_parts : {A : Type 0} (f : List Bytes → A) → ((ps : List Bytes) → f ([] ∷ ps) ≡ f ps) → (s : Bytes) → f (parts (unslashed s)) ≡ f (parts s)
unfolding unslashed split_at
unslashed_parts f h [] = refl
unslashed_parts f h (x ∷ xs) = go (eqb x (byte "/")) refl (unslashed_parts f h xs)
  where
    go : (t : Bool) → eqb x (byte "/") ≡ t → f (parts (unslashed xs)) ≡ f (parts xs) → f (parts (cond t (unslashed xs) (x ∷ xs))) ≡ f (cond t ([] ∷ parts xs) (onto x (parts xs)))
    go true q e = e ∙ sym (h (parts xs))
    go false q e = rw q

-- and what is left begins with another byte
pub unslashed_first : (s : Bytes) (x : ℕ) (xs : Bytes) → unslashed s ≡ x ∷ xs → x ≡ byte "/" → ⊥
unfolding unslashed
unslashed_first [] x xs e g = let z : ◌≡◌ {A = ℕ} 0 (suc (length xs)) = ap length e in absurd (omega arith)
unslashed_first (y ∷ ys) x xs e g = go (eqb y (byte "/")) refl e (λ k. unslashed_first ys x xs k g)
  where
    go : (t : Bool) → eqb y (byte "/") ≡ t → cond t (unslashed ys) (y ∷ ys) ≡ x ∷ xs → (unslashed ys ≡ x ∷ xs → ⊥) → ⊥
    go true q k r = r k
    go false q k r = let z : y ≡ byte "/" = ap (λ (l : Bytes). get_or l 0 0) k ∙ g in no_true (sym q ∙ eq-eqb y (byte "/") z)

-- a part that begins with it
pub first_on : (x : ℕ) (s : Bytes) → (x ≡ byte "/" → ⊥) → parts (x ∷ s) ≡ (x ∷ first_part (parts s)) ∷ others (parts s)
unfolding split_at
first_on x s h = rw (ne_eqb x (byte "/") h) (go (parts s))
  where
    go : (ps : List Bytes) → onto x ps ≡ (x ∷ first_part ps) ∷ others ps
    go [] = refl
    go (p ∷ ps) = refl

-- what an answer holds, and whether it holds anything
abbrev given : List Bytes → Option (List Bytes) → List Bytes
given d None = d
given d (Some ps) = ps

abbrev is_there : Option (List Bytes) → Bool
is_there None = false
is_there (Some ps) = true

-- what was found: the part looked for is the first
pub part_same : (s w : Bytes) (qs : List Bytes) → Some qs ≡ behind w (parts s) → parts s ≡ w ∷ qs
part_same s w qs e = go (same (first_part (parts s)) w) refl e
  where
    go : (t : Bool) → same (first_part (parts s)) w ≡ t → Some qs ≡ cond t (Some (others (parts s))) None → parts s ≡ w ∷ qs
    go true h k =
        let p : first_part (parts s) ≡ w = same_eq (first_part (parts s)) w h in
        let q : qs ≡ others (parts s) = ap (λ (o : Option (List Bytes)). given [] o) k in
        parts_some (byte "/") s ∙ rw (p, q)
    go false h k = absurd (no_true (sym (ap (λ (o : Option (List Bytes)). is_there o) k)))

-- and where it was not, the first is another
pub part_other : (s w : Bytes) → None ≡ behind w (parts s) → same (first_part (parts s)) w ≡ false
part_other s w e = go (same (first_part (parts s)) w) e
  where
    go : (t : Bool) → None ≡ cond t (Some (others (parts s))) None → t ≡ false
    go true k = absurd (no_true (ap (λ (o : Option (List Bytes)). is_there o) k))
    go false k = refl
