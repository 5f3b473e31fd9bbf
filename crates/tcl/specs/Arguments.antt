-- The arguments of a command: positional words, options and flags (document 01, "Files and commands"). Assumes nothing.
use Rattle.std.specs.Prelude.{Bool, true, false, cond, not, ◌&&◌, ◌||◌, List, [], ◌∷◌, eqb, Option, None, Some}
use Rattle.text.specs.Ascii.{Bytes, byte}
use Rattle.text.specs.Classes.{is_digit}
use Rattle.text.specs.Compare.{same}

-- "An option word is `-` followed by a byte that is no digit." ("`-` and `-5` are positional.")
unfoldable pub is_option : Bytes → Bool
is_option [] = false
is_option (x ∷ []) = false
is_option (x ∷ y ∷ w) = eqb x (byte "-") && not (is_digit y)

-- "With a following word that isn't an option word it is an option (last one wins), else a flag."
-- Which words these are is decided here alone: what a word is, `ws` being the words behind it
pub data Role : Type 0 where
  positional flag : Role
  -- with its value
  option : Bytes → Role

abbrev pub with_value : List Bytes → Role
with_value [] = flag
with_value (v ∷ ws) = cond (is_option v) flag (option v)

unfoldable pub role_of : Bytes → List Bytes → Role
role_of w ws = cond (is_option w) (with_value ws) positional

-- the word behind is a value and has no role of its own
abbrev pub takes_next : Role → Bool
takes_next Role.positional = false
takes_next Role.flag = false
takes_next (Role.option v) = true

-- ---- the arguments, in order; `taken`: the first word is the value of the option before it

abbrev pub as_positional : Role → Bytes → List Bytes
as_positional Role.positional w = w ∷ []
as_positional Role.flag w = []
as_positional (Role.option v) w = []

unfoldable pub positionals_from : Bool → List Bytes → List Bytes
positionals_from taken [] = []
positionals_from true (w ∷ ws) = positionals_from false ws
positionals_from false (w ∷ ws) = cons_all (as_positional (role_of w ws) w) (positionals_from (takes_next (role_of w ws)) ws)
  where
    cons_all : List Bytes → List Bytes → List Bytes
    cons_all [] t = t
    cons_all (x ∷ xs) t = x ∷ cons_all xs t

abbrev pub positionals : List Bytes → List Bytes
positionals ws = positionals_from false ws

-- the value of the option with this name: the last one wins
abbrev pub as_value : Role → Bool → Option Bytes
as_value Role.positional t = None
as_value Role.flag t = None
as_value (Role.option v) t = cond t (Some v) None

abbrev pub later : Option Bytes → Option Bytes → Option Bytes
later (Some v) u = Some v
later None u = u

unfoldable pub option_from : Bool → Bytes → List Bytes → Option Bytes
option_from taken key [] = None
option_from true key (w ∷ ws) = option_from false key ws
option_from false key (w ∷ ws) =
    later (option_from (takes_next (role_of w ws)) key ws) (as_value (role_of w ws) (same w key))

-- `key` with its dash, as in `ascii "-elements"`
abbrev pub option_of : Bytes → List Bytes → Option Bytes
option_of key ws = option_from false key ws

abbrev pub is_flag : Role → Bool
is_flag Role.positional = false
is_flag Role.flag = true
is_flag (Role.option v) = false

unfoldable pub has_flag_from : Bool → Bytes → List Bytes → Bool
has_flag_from taken key [] = false
has_flag_from true key (w ∷ ws) = has_flag_from false key ws
has_flag_from false key (w ∷ ws) = (is_flag (role_of w ws) && same w key) || has_flag_from (takes_next (role_of w ws)) key ws

abbrev pub has_flag : Bytes → List Bytes → Bool
has_flag key ws = has_flag_from false key ws

-- the first positional word, empty where there is none; the second; the last
abbrev pub first_or : List Bytes → Bytes
first_or [] = []
first_or (p ∷ ps) = p

abbrev pub name_of : List Bytes → Bytes
name_of ws = first_or (positionals ws)

abbrev pub last_or : Bytes → List Bytes → Bytes
last_or z [] = z
last_or z (p ∷ ps) = last_or p ps

abbrev pub last_positional : List Bytes → Bytes
last_positional ws = last_or [] (positionals ws)

-- ---- "In `create_power_switch` `-on_state` and `-off_state`, and in `add_port_state` `-state`, take the next raw word, even one like an option."

-- a state: true for the first key, false for the second, and the word behind it
pub record State : Type 0 where
  pub one : Bool
  pub value : Bytes

abbrev pub state_of : Bytes → Bytes → Bytes → List Bytes → List State
state_of one two w [] = []
state_of one two w (v ∷ ws) =
    cond (same w one) (record { one = true; value = v } ∷ []) (cond (same w two) (record { one = false; value = v } ∷ []) [])

abbrev pub is_key : Bytes → Bytes → Bytes → Bool
is_key one two w = same w one || same w two

unfoldable pub states_from : Bool → Bytes → Bytes → List Bytes → List State
states_from taken one two [] = []
states_from true one two (w ∷ ws) = states_from false one two ws
states_from false one two (w ∷ ws) = push (state_of one two w ws) (states_from (is_key one two w) one two ws)
  where
    push : List State → List State → List State
    push [] t = t
    push (x ∷ xs) t = x ∷ push xs t

-- the states of a whole command, its name included; where there is one key only it stands twice
abbrev pub states : Bytes → Bytes → List Bytes → List State
states one two ws = states_from false one two ws
