-- How a `Ref` stands for a byte string: a stored name, or its first bytes; a slash; another stored name; a part of the job. Assumes nothing.
use Rattle.std.specs.Prelude.{Option, Some, None}
use Rattle.std.specs.Prelude.{ℕ, ◌≡◌, Bool, false, true, cond, ◌&&◌, [], ◌∷◌, ◌++◌, eqb, take, drop}
use Rattle.text.specs.Ascii.{Bytes, byte}
use Rattle.out.specs.Bytewise.{dotted}
use Rattle.spans.specs.Span.{◌⋯◌}
use Rattle.names.specs.Name.{named, name_of, slash}
use Rattle.names.specs.declared.name.Name.{Name}
use Rattle.names.specs.declared.name.Form.TheVariants.{Word}
use Rattle.refs.specs.declared.Ref.{Ref}

abbrev pub front_of : Bool → ℕ → Bytes → Bytes
front_of cut upto n = cond cut (take upto n) n

unfoldable pub text_of : Bytes → Bytes → Ref → Bytes
text_of job mem r = front_of r.cut r.upto (name_of mem r.name) ++ (slash r.sep ++ (name_of mem r.last ++ take r.len (drop r.at job)))

-- what is left, as the answer of a read tells it
abbrev pub step_of : Bytes → Bytes → Option (ℕ × Ref) → Bytes
step_of job mem (Some (b, r)) = b ∷ text_of job mem r
step_of job mem None = []

-- of a part of the job: its first byte and what is left, whatever is stored
pub record Starts (job : Bytes) (at len : ℕ) (r : Option (ℕ × Ref)) : Type 0 where
  pub is : (mem : Bytes) → take len (drop at job) ≡ step_of job mem r

-- ---- texts that are made

abbrev pub ref_of : Name → Bool → ℕ → Bool → Name → ℕ → ℕ → Ref
ref_of n c k p l at len = record { name = n; cut = c; upto = k; sep = p; last = l; at = at; len = len }

abbrev pub no_name : Name
no_name = named (0 ⋯ 0) false (0 ⋯ 0) Word

abbrev pub whole_ref : Name → Ref
whole_ref n = ref_of n false 0 false no_name 0 0

abbrev pub front_ref : Name → ℕ → Ref
front_ref n k = ref_of n true k false no_name 0 0

abbrev pub job_ref : ℕ → ℕ → Ref
job_ref at len = ref_of no_name false 0 false no_name at len

-- ---- with dots, where they are wanted

abbrev pub dot_of : Bool → ℕ → ℕ
dot_of dots b = cond (dots && eqb b (byte "/")) (byte ".") b

abbrev pub as_dots : Bool → Bytes → Bytes
as_dots dots t = cond dots (dotted t) t
