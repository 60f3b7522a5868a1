pub mod CutThenPut
