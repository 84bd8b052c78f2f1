mod EmptyMakefile
mod YesInWords
