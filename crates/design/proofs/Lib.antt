pub mod AcceptedNames
