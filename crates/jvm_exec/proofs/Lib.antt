mod ShapeLemmas
