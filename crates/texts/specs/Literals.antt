-- The literals of the texts. Assumes nothing.
use Rattle.text.specs.Ascii.{Bytes, ascii}
use Rattle.texts.specs.declared.Literal.{Literal}

abbrev pub literal : Literal → Bytes
literal Literal.BitZero = ascii "1'b0"
literal Literal.BitOne = ascii "1'b1"
literal Literal.Zero = ascii "0"
literal Literal.One = ascii "1"
literal Literal.Z = ascii "z"
literal Literal.High = ascii "high"
