-- What texts are written from. Assumes nothing.
use Rattle.text.specs.Ascii.{Bytes}
use Rattle.spans.specs.Memory.{memory}
use Rattle.scope.specs.Path.{path_of}
use Rattle.format.specs.Args.{arg_of}
use Rattle.format.specs.declared.arg.Arg.{Arg}
use Rattle.format.specs.declared.source.Source.{Source}

-- an argument written from it
abbrev pub arg_in : Source → Arg → Bytes
arg_in s a = arg_of s.design.index.job.now (memory s.mem) (path_of s.scope) s.top.now a
